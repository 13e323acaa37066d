use Rattle.json_view.specs.Nodes.{child_text}
use Rattle.json_view.proofs.Commas.{one_more}
use Rattle.json_view.proofs.node.put_children.Goals as goal

pub loop-at-preserved : goal.loop-at-preserved
loop-at-preserved c =
    one_more child_text c.args.entries.now c.loop-at.at c.index-entries-at.result c.index-entries-at.result _ _ _ _ c.loop-at-test.true c.index-entries-at.is c.loop-at.invariant c.in_ok-put_comma.ensures c.in_ok-put_child.ensures
