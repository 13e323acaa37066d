use Rattle.std.proofs.Common.{◌≡◌, ℕ, List, Some, is_some, true, false, sym, ap, ◌∙◌}
use Rattle.std.specs.FinMap.{empty, get, insert}
use Rattle.std.specs.Rc.{rc_slice_items}
use Rattle.share_store.specs.Shares.{Shares, ShareKey}
use Rattle.share_store.specs.Changes.{changes_made, left_by}
use Rattle.share_store.specs.declared.shared_memory.ShareChange.{ShareChange}
use Rattle.share_store.proofs.Along.{left_by-more, put_there, put_anew, stands_by}
use Rattle.share_store.proofs.shared_memory.SharedMemory.put_change.Goals as goal

pub invariant_of-self-then-stands : goal.invariant_of-self-then-stands
invariant_of-self-then-stands c =
    let change : ShareChange = record { index = c.args.index; number = c.args.number; bytes = Some c.in_ok-told.told } in
    let key : ShareKey = (c.args.index, c.args.number) in
    let past : List ShareChange = c.args.self.now.changes.items in
    let m : Shares = left_by (changes_made past) empty in
    let stands : is_some (get m key) ≡ true =
    ap (λ (n : Shares). is_some (get n key)) (sym c.args.self.now.left) ∙ stands_by (λ bytes. rc_slice_items bytes.now) c.get.result _ c.is_some-stands.result true c.get.ensures c.is_some-stands.ensures c.if-stands.true in
    record {
      left = c.args.self.now.left
          ∙ sym (put_there m key (rc_slice_items c.in_ok-told.told) stands)
          ∙ sym (left_by-more past change)
          ∙ ap (λ (l : List ShareChange). left_by (changes_made l) empty) (sym c.in_ok-push.ensures.items);
    }

pub invariant_of-self-in-Ok : goal.invariant_of-self-in-Ok
invariant_of-self-in-Ok c =
    let change : ShareChange = record { index = c.args.index; number = c.args.number; bytes = Some c.in_ok-told.told } in
    let same : rc_slice_items c.in_ok-told.told ≡ rc_slice_items c.args.bytes = c.in_ok-told.ensures.cases in
    let key : ShareKey = (c.args.index, c.args.number) in
    let past : List ShareChange = c.args.self.now.changes.items in
    let m : Shares = left_by (changes_made past) empty in
    let none : is_some (get m key) ≡ false =
    ap (λ (n : Shares). is_some (get n key)) (sym c.args.self.now.left) ∙ stands_by (λ bytes. rc_slice_items bytes.now) c.get.result _ c.is_some-stands.result false c.get.ensures c.is_some-stands.ensures c.if-stands.false in
    record {
      left = c.in-Ok.ensures.ok
          ∙ ap (λ (n : Shares). insert n key (rc_slice_items c.args.bytes)) c.args.self.now.left
          ∙ ap (λ (b : List ℕ). insert m key b) (sym same)
          ∙ sym (put_anew m key (rc_slice_items c.in_ok-told.told) none)
          ∙ sym (left_by-more past change)
          ∙ ap (λ (l : List ShareChange). left_by (changes_made l) empty) (sym c.in_ok-push.ensures.items);
    }
