use Rattle.std.proofs.Common.{◌≡◌, ◌++◌, ◌∷◌, [], ℕ, map, length, ap, sym, refl, subst, ◌∙◌, ◌↔◌, ◌<◌, Result, Ok, Err, IsErrOf, Some, None, List, arith}
use Rattle.std.specs.Prelude.{slice_get}
use Rattle.std.specs.Option.{option_map}
use Rattle.std.proofs.lemmas.Result.{err_from_is_err_and}
use Rattle.std.specs.FinMap.{empty, entries}
use Rattle.std.specs.Rc.{rc_slice_items}
use Rattle.share_store.specs.Shares.{Shares, ShareKey, ShareEntry}
use Rattle.share_store.specs.Stored.{shares_in}
use Rattle.share_store.proofs.Nth.{nth_none}
use Rattle.share_shelf.specs.Kept.{HadBeen, states_from, told_of}
use Rattle.share_shelf.specs.declared.mem_shelf.Change.{Change}
use Rattle.share_shelf.specs.declared.fault.ShelfFault.TheVariants.{Failed}
use Rattle.share_shelf.proofs.Moments.{is_kept, one_more, no_more}
use Rattle.share_shelf.proofs.mem_shelf.MemShelfShelf.list.Goals as goal

pub returns-in-None-clause-found : goal.returns-in-None-clause-found
returns-in-None-clause-found c honest m keeps =
    let inv = c.loop-at.invariant in
    let es : List ShareEntry = entries (shares_in rc_slice_items c.args.self.now.map.indexes) in
    let name : option_map (λ (e : ShareEntry). e.0) (slice_get es c.loop-at.at) ≡ None =
    ap (λ n. option_map (λ (e : ShareEntry). e.0) (slice_get (entries (shares_in rc_slice_items n)) c.loop-at.at)) (sym inv.same_map) ∙ sym c.nth.ensures.found ∙ c.in-None.is in
    let none : slice_get es c.loop-at.at ≡ None = nth_none (shares_in rc_slice_items c.args.self.now.map.indexes) c.loop-at.at name in
    let is : m ≡ shares_in rc_slice_items c.args.self.now.map.indexes = is_kept (told_of c.args.self.now.changes.items) m keeps ∙ sym c.args.self.now.told in
    inv.names ∙ ap (λ (l : List ShareEntry). map (λ (e : ShareEntry). e.0) l) (no_more es c.loop-at.at none)
    ∙ ap (λ (n : Shares). map (λ (e : ShareEntry). e.0) (entries n)) (sym is)

pub loop-at-preserved : goal.loop-at-preserved
loop-at-preserved c =
    let inv = c.loop-at.invariant in
    let es : List ShareEntry = entries (shares_in rc_slice_items c.args.self.now.map.indexes) in
    let some : option_map (λ (e : ShareEntry). e.0) (slice_get es c.loop-at.at) ≡ Some c.in-Some.name =
    ap (λ n. option_map (λ (e : ShareEntry). e.0) (slice_get (entries (shares_in rc_slice_items n)) c.loop-at.at)) (sym inv.same_map) ∙ sym c.nth.ensures.found ∙ c.in-Some.is in
    record {
      same_map = c.nth.ensures.same ∙ inv.same_map;
      same_changes = inv.same_changes;
      names = c.in_ok-push-in-Some.ensures.items
          ∙ ap (λ (l : List ShareKey). l ++ c.in-Some.name ∷ []) inv.names
          ∙ sym (one_more es c.loop-at.at c.in-Some.name some);
    }

-- the changes stay, so no moment passes
quiet : (old new : List Change) → new ≡ old
    → (length (told_of new) ≡ length (told_of old)) × ((t : ℕ) (c : Shares) → HadBeen (told_of new) t c → HadBeen (told_of old) t c)
quiet old new e = (ap (λ (l : List Change). length (told_of l)) e, λ t c had. subst (λ (l : List Change). HadBeen (told_of l) t c) e had)

-- no failure is told, and none is counted
never : {T E : Type 0} (s : Result T E) (x : E) → (s ≡ Err x → ⊥) → (IsErrOf s x ↔ (0 < 0))
never s x other = (λ q. absurd (other q), λ p. absurd (omega arith))

pub returns-in_err-push-in-Some-clause-failed : goal.returns-in_err-push-in-Some-clause-failed
returns-in_err-push-in-Some-clause-failed c =
    let p = err_from_is_err_and c.from_residual.result c.from_residual.ensures.1 in
    never c.from_residual.result Failed (λ q. let is = p.1 ∙ ap Err p.2 in cc)

pub returns-in-None-clause-failed : goal.returns-in-None-clause-failed
returns-in-None-clause-failed c = never (Ok c.loop-at.names) Failed (λ q. cc)

pub returns-clause-failed : goal.returns-clause-failed
returns-clause-failed c = never _ Failed (λ q. cc)

pub returns-in_err-push-in-Some-clause-honest : goal.returns-in_err-push-in-Some-clause-honest
returns-in_err-push-in-Some-clause-honest c = refl

pub returns-in_err-push-in-Some-clause-quiet : goal.returns-in_err-push-in-Some-clause-quiet
returns-in_err-push-in-Some-clause-quiet c =
    let q = quiet c.args.self.now.changes.items c.loop-at.self.changes.items (ap (λ v. v.items) c.loop-at.invariant.same_changes) in
    record { same_moment = q.0; nothing_else = q.1 }

pub returns-in_err-push-in-Some-clause-same_history : goal.returns-in_err-push-in-Some-clause-same_history
returns-in_err-push-in-Some-clause-same_history c honest = ap (λ v. Some (states_from empty (told_of v.items))) c.loop-at.invariant.same_changes

pub returns-in-None-clause-honest : goal.returns-in-None-clause-honest
returns-in-None-clause-honest c = refl

pub returns-in-None-clause-quiet : goal.returns-in-None-clause-quiet
returns-in-None-clause-quiet c =
    let q = quiet c.args.self.now.changes.items c.loop-at.self.changes.items (ap (λ v. v.items) c.loop-at.invariant.same_changes) in
    record { same_moment = q.0; nothing_else = q.1 }

pub returns-in-None-clause-same_history : goal.returns-in-None-clause-same_history
returns-in-None-clause-same_history c honest = ap (λ v. Some (states_from empty (told_of v.items))) c.loop-at.invariant.same_changes

pub returns-clause-honest : goal.returns-clause-honest
returns-clause-honest c = refl

pub returns-clause-quiet : goal.returns-clause-quiet
returns-clause-quiet c =
    let q = quiet c.args.self.now.changes.items c.loop-at.self.changes.items (ap (λ v. v.items) c.loop-at.invariant.same_changes) in
    record { same_moment = q.0; nothing_else = q.1 }

pub returns-clause-same_history : goal.returns-clause-same_history
returns-clause-same_history c honest = ap (λ v. Some (states_from empty (told_of v.items))) c.loop-at.invariant.same_changes
