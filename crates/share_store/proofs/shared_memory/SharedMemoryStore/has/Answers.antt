use Rattle.std.proofs.Common.{is_some, sym, ap, refl, ◌∙◌}
use Rattle.std.specs.FinMap.{empty, get}
use Rattle.std.specs.Rc.{rc_slice_items}
use Rattle.share_store.specs.Shares.{Shares}
use Rattle.share_store.specs.Changes.{changes_made, left_by}
use Rattle.share_store.proofs.Along.{along_seen, stands_by}
use Rattle.share_store.proofs.shared_memory.SharedMemoryStore.has.Goals as goal

pub returns-clause-seen : goal.returns-clause-seen
returns-clause-seen c shared calm =
    let now = c.others_come.new.self in (
      left_by (changes_made now.changes.items) empty,
      along_seen _ _ _ c.in_ok-others_come.ensures.done,
      sym (stands_by (λ bytes. rc_slice_items bytes.now) c.get.result _ c.is_some.result c.is_some.result c.get.ensures c.is_some.ensures refl) ∙ ap (λ (m : Shares). is_some (get m (c.args.index, c.args.number))) now.left,
    )
