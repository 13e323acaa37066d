use Rattle.std.proofs.Common.{Some, sym, ap, ◌∙◌}
use Rattle.std.specs.FinMap.{empty, get}
use Rattle.std.specs.Option.{option_map}
use Rattle.std.specs.Rc.{rc_slice_items}
use Rattle.share_store.specs.Shares.{Shares}
use Rattle.share_store.specs.Changes.{changes_made, left_by}
use Rattle.share_store.proofs.Along.{along_seen}
use Rattle.share_store.proofs.shared_memory.SharedMemoryStore.get.Goals as goal

pub returns-in-None-clause-seen : goal.returns-in-None-clause-seen
returns-in-None-clause-seen c shared calm =
    let now = c.others_come.new.self in (
      left_by (changes_made now.changes.items) empty,
      along_seen _ _ _ c.in_ok-others_come.ensures.done,
      sym (ap (option_map (λ bytes. rc_slice_items bytes.now)) c.in-None.is) ∙ c.get.ensures ∙ ap (λ (m : Shares). get m (c.args.index, c.args.number)) now.left,
    )

pub returns-in_ok-clone-in-Some-clause-seen : goal.returns-in_ok-clone-in-Some-clause-seen
returns-in_ok-clone-in-Some-clause-seen c shared calm =
    let now = c.others_come.new.self in (
      left_by (changes_made now.changes.items) empty,
      along_seen _ _ _ c.in_ok-others_come.ensures.done,
      ap Some c.in_ok-clone-in-Some.ensures.cases ∙ sym (ap (option_map (λ bytes. rc_slice_items bytes.now)) c.in-Some.is) ∙ c.get.ensures ∙ ap (λ (m : Shares). get m (c.args.index, c.args.number)) now.left,
    )
