use Rattle.std.proofs.lemmas.List.{take_rest}
use Rattle.serde_json.specs.Written.{comma_if}
use Rattle.json_view.specs.Nodes.{child_text}
use Rattle.json_view.proofs.Listings.{child_put}
use Rattle.json_view.proofs.Pushed.{two_put}
use Rattle.json_view.proofs.listing.put_next.Goals as goal

pub returns-clause-put : goal.returns-clause-put
returns-clause-put c =
    let out = c.args.out.now.items in
    let entry = c.in-Ok.entry in
    let put = two_put out (comma_if c.args.later) (child_text entry) c.put_comma.new.out.items c.put_child.new.out.items c.in_ok-put_comma.ensures c.in_ok-put_child.ensures in
    child_put c.ends_of_texts_are_texts.ensures c.args.text.now c.args.later c.args.at c.in-Ok.size out c.put_child.new.out.items entry c.requires.readable (rw (take_rest c.args.text.now c.args.at) at c.in-Ok.ensures.read) put
