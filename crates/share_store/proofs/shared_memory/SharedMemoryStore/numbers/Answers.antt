use Rattle.std.proofs.Common.{◌≡◌, ap, ◌∙◌}
use Rattle.std.specs.FinMap.{empty}
use Rattle.std.specs.Rc.{rc_slice_items}
use Rattle.share_store.specs.Shares.{Shares}
use Rattle.share_store.specs.Numbers.{numbers_for}
use Rattle.share_store.specs.Stored.{shares_in}
use Rattle.share_store.specs.Changes.{changes_made, left_by}
use Rattle.share_store.proofs.Along.{along_seen, if_given}
use Rattle.share_store.proofs.shared_memory.SharedMemoryStore.numbers.Goals as goal

pub returns-clause-seen : goal.returns-clause-seen
returns-clause-seen c shared calm =
    let now = c.others_come.new.self in
    if_given (λ numbers. numbers.items ≡ numbers_for (shares_in rc_slice_items now.map.indexes) c.args.index) _ c.numbers.result
    (λ numbers is. (left_by (changes_made now.changes.items) empty, along_seen _ _ _ c.in_ok-others_come.ensures.done, is ∙ ap (λ (m : Shares). numbers_for m c.args.index) now.left)) c.numbers.ensures
