use Rattle.std.proofs.Common.{◌≡◌, ap, sym, ◌∙◌, Some, List, ℕ}
use Rattle.std.specs.FinMap.{empty, insert}
use Rattle.std.specs.Rc.{rc_slice_items}
use Rattle.share_store.specs.Shares.{Shares, ShareKey}
use Rattle.share_shelf.specs.Kept.{told_of, after_changes}
use Rattle.share_shelf.specs.declared.mem_shelf.Change.{Change}
use Rattle.share_shelf.proofs.Moments.{after_more}
use Rattle.share_shelf.proofs.mem_shelf.MemShelf.tell_put.Goals as goal

pub invariant_of-self-in-Ok : goal.invariant_of-self-in-Ok
invariant_of-self-in-Ok c =
    let change : Change = record { index = c.args.index; number = c.args.number; bytes = Some c.in_ok-told.told } in
    let same : rc_slice_items c.in_ok-told.told ≡ rc_slice_items c.args.bytes = c.in_ok-told.ensures.cases in
    let key : ShareKey = (c.args.index, c.args.number) in
    let past : List Change = c.args.self.now.changes.items in
    record {
      told = c.in-Ok.ensures.ok
          ∙ ap (λ (n : Shares). insert n key (rc_slice_items c.args.bytes)) c.args.self.now.told
          ∙ ap (λ (b : List ℕ). insert (after_changes (told_of past) empty) key b) (sym same)
          ∙ sym (after_more past change empty)
          ∙ ap (λ (l : List Change). after_changes (told_of l) empty) (sym c.in_ok-push.ensures.items);
    }
