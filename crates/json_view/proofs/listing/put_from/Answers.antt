use Rattle.json_view.proofs.Listings.{all_put}
use Rattle.json_view.proofs.listing.put_from.Goals as goal

pub returns-clause-put : goal.returns-clause-put
returns-clause-put c =
    all_put c.args.text.now c.args.later c.args.from c.args.out.now.items c.loop-at.out.items c.loop-at.after c.loop-at.at c.loop-at.invariant.put c.loop-at-test.false
