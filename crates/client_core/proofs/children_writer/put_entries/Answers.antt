use Rattle.json_view.proofs.Commas.{one_more}
use Rattle.client_core.specs.ChildrenJson.{entry_member}
use Rattle.client_core.proofs.children_writer.put_entries.Goals as goal

pub loop-at-preserved : goal.loop-at-preserved
loop-at-preserved c =
    one_more entry_member c.args.entries.now c.loop-at.at c.index-entries-at.result c.index-entries-at.result _ _ _ _ c.loop-at-test.true c.index-entries-at.is c.loop-at.invariant c.in_ok-put_comma.ensures c.in_ok-put_entry.ensures
