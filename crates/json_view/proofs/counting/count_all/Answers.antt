use Rattle.json_view.proofs.Listings.{count_begun, count_done}
use Rattle.json_view.proofs.counting.count_all.Goals as goal

pub loop-at-init : goal.loop-at-init
loop-at-init c = count_begun c.new-last.result.items c.args.text.now c.new-last.ensures.items

pub returns-clause-counted : goal.returns-clause-counted
returns-clause-counted c = count_done c.loop-at.last.items c.args.text.now c.loop-at.at c.loop-at.count c.loop-at.invariant c.loop-at-test.false
