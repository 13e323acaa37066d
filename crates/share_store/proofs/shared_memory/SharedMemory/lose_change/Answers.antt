use Rattle.std.proofs.Common.{ap, sym, ◌∙◌, None, List}
use Rattle.std.specs.FinMap.{empty, remove}
use Rattle.share_store.specs.Shares.{Shares}
use Rattle.share_store.specs.Changes.{changes_made, left_by}
use Rattle.share_store.specs.declared.shared_memory.ShareChange.{ShareChange}
use Rattle.share_store.proofs.Along.{left_by-more}
use Rattle.share_store.proofs.shared_memory.SharedMemory.lose_change.Goals as goal

pub invariant_of-self-2 : goal.invariant_of-self-2
invariant_of-self-2 c =
    let change : ShareChange = record { index = c.args.index; number = c.args.number; bytes = None } in
    let past : List ShareChange = c.args.self.now.changes.items in
    record {
      left = c.remove-bytes.ensures.shares
          ∙ ap (λ (n : Shares). remove n (c.args.index, c.args.number)) c.args.self.now.left
          ∙ sym (left_by-more past change)
          ∙ ap (λ (l : List ShareChange). left_by (changes_made l) empty) (sym c.in_ok-push.ensures.items);
    }
