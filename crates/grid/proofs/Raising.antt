-- What raising a stamp leaves, and what a call of a store leaves after it.
use Rattle.std.specs.Prelude.{nat_lt}
use Rattle.std.proofs.Common.{◌&&◌, Bool, ◌≡◌, ◌≢◌, ◌≤◌, ◌⊎◌, inl, inr, ℕ, ◌==◌, cond, List, [], ◌∷◌, Option, Some, unwrap_or, Result, Ok, Err, OnOk, OnErr, IfErr, length, take, slice_get, refl, sym, ap, subst, ◌∙◌, arith, true, false, if◌then◌else◌}
use Rattle.std.proofs.lemmas.Bool.Decides.{nat_tests}
use Rattle.std.specs.declared.cmp.Ordering.{Ordering}
use Rattle.std.specs.declared.cmp.Ordering.TheVariants.{Less, Equal, Greater}
use Rattle.std.specs.Ordering.{nat_cmp, is_eq, eq_by_cmp, ordering_then}
use Rattle.std.specs.Cmp.Lexicographic.{slice_cmp, nat_list_cmp_total}
use Rattle.std.specs.FinMap as finite
use Rattle.share_store.specs.Shares.{ShareKey}
use Rattle.grid.specs.declared.fault.GridFault.{GridFault}
use Rattle.grid.specs.Stamps.{Stamps, count_at, one_more, raised, last_count}
use Rattle.grid.specs.GridState.{GridState, StoreState, stood, raised_at, IsHonest}
use Rattle.grid.specs.Standing.{Standing, standing}
use Rattle.grid.specs.Changes.{changed_at}
use Rattle.grid.specs.Placement.{server_of, placed}
use Rattle.grid.specs.Leaves.{Leaves, HoldsAsBefore}
use Rattle.grid.specs.Changed.{ArePut, PutStopsAt, IsLost, IsSpoiled}
use Rattle.grid.specs.Stamped.{IsStamped}
use Rattle.grid.specs.Histories.{TellsOfChange}

-- the state with other stamps
abbrev pub stamped_so : GridState → Stamps → GridState
stamped_so g stamps = record { stores = g.stores; stamps = stamps }

-- a call between `mid` and `new`, where the stamp of an index was raised before it: what it left of `mid` it left of `old`
module _ {old mid : GridState} (new : GridState) (index : List ℕ) (is : mid ≡ stamped_so old (raised index old.stamps)) where
  pub held_raised : HoldsAsBefore mid new → HoldsAsBefore old new
  held_raised held = let same = subst (λ g. HoldsAsBefore g new) is held in record { maps = same.maps; rooms = same.rooms }

  pub put_raised : (shares : List (List ℕ)) → ArePut index shares mid new → ArePut index shares old new
  put_raised shares put = let p = subst (λ (g : GridState). ArePut index shares g new) is put in record { stands = p.stands; rooms = p.rooms }

  pub stops_raised : (shares : List (List ℕ)) (fault : GridFault) → PutStopsAt index shares mid new fault → PutStopsAt index shares old new fault
  stops_raised shares fault stops =
      let p = subst (λ (g : GridState). PutStopsAt index shares g new fault) is stops in
      record {
        n = p.n;
        share = p.share;
        at = p.at;
        put = λ all. put_raised (take p.n shares) (stops.put (subst IsHonest (sym is) all));
        refusal = p.refusal;
        full = p.full;
        none_stood = p.none_stood;
        down = p.down;
      }

  pub lost_raised : (server : ℕ) (key : ShareKey) → IsLost server key mid new → IsLost server key old new
  lost_raised server key lost = let p = subst (λ g. IsLost server key g new) is lost in record { stands = p.stands; rooms = p.rooms }

  pub spoiled_raised : (server : ℕ) (key : ShareKey) (place : ℕ) → IsSpoiled server key place mid new → IsSpoiled server key place old new
  spoiled_raised server key place spoiled = let p = subst (λ g. IsSpoiled server key place g new) is spoiled in record { stands = p.stands; rooms = p.rooms }

pub leaves_raised : (old mid new : GridState) → mid.stores ≡ old.stores → Leaves mid new → Leaves old new
leaves_raised old mid new is left =
    let same = subst (λ (ts : List StoreState). Leaves (record { stores = ts; stamps = mid.stamps }) new) is left in
    record { servers = same.servers; rises = same.rises; honest = same.honest; was_honest = same.was_honest; sums = same.sums }

pub told_raised : (old mid new : GridState) (index : List ℕ) → mid ≡ stamped_so old (raised index old.stamps) → (asked : List StoreState → Standing) → (IsHonest mid → TellsOfChange (asked mid.stores) mid new) → IsHonest old → TellsOfChange (asked old.stores) old new
told_raised old mid new index is asked told all = subst (λ (g : GridState). TellsOfChange (asked g.stores) g new) is (told (subst IsHonest (sym is) all))

pub none_there : {A : Type 0} (xs : List A) → length xs ≡ 0 → xs ≡ []
none_there [] e = refl
none_there (x ∷ xs) e = absurd (omega arith)

-- ---- what stands under other storage indexes

-- what stands under all indexes but this one is as it was
abbrev pub SameBut : List ℕ → Standing → Standing → Type 0
SameBut index before after = (si : List ℕ) → (eq_by_cmp (slice_cmp nat_cmp) si index ≡ false) → (s n : ℕ) → after s (si, n) ≡ before s (si, n)

-- a choice by a test, under a default
chosen : (b : Bool) (v : ℕ) (o : Option ℕ) → unwrap_or (cond b (Some v) o) 0 ≡ (if b then v else unwrap_or o 0)
chosen true v o = refl
chosen false v o = refl

pub raised_here : (stamps : Stamps) (index si : List ℕ) → count_at (raised index stamps) si ≡ (if eq_by_cmp (slice_cmp nat_cmp) si index then one_more (count_at stamps index) else count_at stamps si)
raised_here stamps index si =
    ap (λ o. unwrap_or o 0) (finite.get-insert nat_list_cmp_total stamps index (one_more (count_at stamps index)) si) ∙ chosen (eq_by_cmp (slice_cmp nat_cmp) si index) (one_more (count_at stamps index)) (finite.get stamps si)

-- equal keys are the same
same_key : (si index : List ℕ) → eq_by_cmp (slice_cmp nat_cmp) si index ≡ true → si ≡ index
same_key si index e = finite.slice_cmp-IsAntisymmetric finite.nat_cmp-IsAntisymmetric si index (equal (slice_cmp nat_cmp si index) e)
  where
    equal : (r : Ordering) → is_eq r ≡ true → r ≡ Equal
    equal Less h = cc
    equal Equal h = refl
    equal Greater h = cc

grows : (n : ℕ) → n ≤ one_more n
grows n = grind (arith, nat_tests)

stays_at_last : (n : ℕ) → one_more n ≡ n → n ≡ last_count
stays_at_last n e = grind (arith, nat_tests)

both_bools : (b : Bool) → (b ≡ true) ⊎ (b ≡ false)
both_bools true = inl refl
both_bools false = inr refl

pub raise_stamped : (old new : GridState) (index : List ℕ) → new.stamps ≡ raised index old.stamps → (IsHonest old → SameBut index (stood old) (stood new)) → IsStamped old new
raise_stamped old new index stamps same = record {
  rises = λ si. by_case si (both_bools (eq_by_cmp (slice_cmp nat_cmp) si index));
  tells = λ all si still fits. by_place all si still fits (both_bools (eq_by_cmp (slice_cmp nat_cmp) si index));
}
  where
    count : (si : List ℕ) → raised_at new si ≡ (if eq_by_cmp (slice_cmp nat_cmp) si index then one_more (raised_at old index) else raised_at old si)
    count si = ap (λ m. count_at m si) stamps ∙ raised_here old.stamps index si

    here : (si : List ℕ) → eq_by_cmp (slice_cmp nat_cmp) si index ≡ true → raised_at new si ≡ one_more (raised_at old si)
    here si e = count si ∙ ap (λ b. if b then one_more (raised_at old index) else raised_at old si) e ∙ ap (λ k. one_more (raised_at old k)) (sym (same_key si index e))

    elsewhere : (si : List ℕ) → eq_by_cmp (slice_cmp nat_cmp) si index ≡ false → raised_at new si ≡ raised_at old si
    elsewhere si e = count si ∙ ap (λ b. if b then one_more (raised_at old index) else raised_at old si) e

    by_case : (si : List ℕ) → (eq_by_cmp (slice_cmp nat_cmp) si index ≡ true) ⊎ (eq_by_cmp (slice_cmp nat_cmp) si index ≡ false) → raised_at old si ≤ raised_at new si
    by_case si (inl e) = subst (λ n. raised_at old si ≤ n) (sym (here si e)) (grows (raised_at old si))
    by_case si (inr e) = subst (λ n. raised_at old si ≤ n) (sym (elsewhere si e)) (omega arith)

    by_place : IsHonest old → (si : List ℕ) → raised_at new si ≡ raised_at old si → raised_at new si ≢ last_count →
        (eq_by_cmp (slice_cmp nat_cmp) si index ≡ true) ⊎ (eq_by_cmp (slice_cmp nat_cmp) si index ≡ false) → (s n : ℕ) → stood new s (si, n) ≡ stood old s (si, n)
    by_place all si still fits (inl e) s n = absurd (fits (still ∙ stays_at_last (raised_at old si) (sym (here si e) ∙ still)))
    by_place all si still fits (inr e) s n = same all si e s n

-- a change at one place
apart_key : (o p : Ordering) → is_eq o ≡ false → is_eq (ordering_then o p) ≡ false
apart_key Less p e = refl
apart_key Equal p e = cc
apart_key Greater p e = refl

and_false : (a b : Bool) → b ≡ false → (a && b) ≡ false
and_false true b e = e
and_false false b e = refl

pub same_but_changed : (index : List ℕ) (number server : ℕ) (change : Option (List ℕ) → Option (List ℕ)) (before after : Standing) → after ≡ changed_at server (index, number) change before → SameBut index before after
same_but_changed index number server change before after is si other s n =
    ap (λ f. f s (si, n)) is
    ∙ ap (λ b. if b then change (before s (si, n)) else before s (si, n)) (and_false (s == server) _ (apart_key (slice_cmp nat_cmp si index) (nat_cmp n number) other))

pub same_but_placed : (count : ℕ) (index : List ℕ) (shares : List (List ℕ)) (before after : Standing) → after ≡ placed count index shares before → SameBut index before after
same_but_placed count index shares before after is si other s n =
    ap (λ f. f s (si, n)) is
    ∙ ap (λ b. if b && nat_lt n (length shares) && s == server_of count index n then Some (unwrap_or (before s (si, n)) (unwrap_or (slice_get shares n) [])) else before s (si, n)) other

pub same_but_held : (index : List ℕ) (old new : GridState) → HoldsAsBefore old new → SameBut index (stood old) (stood new)
same_but_held index old new same si other s n = ap (λ maps. standing maps s (si, n)) same.maps

-- by what a call answered
pub by_answer : {A E : Type 0} (P X Y : Type 0) (r : Result A E) → OnOk r X → OnErr r Y → (X → P) → (Y → P) → P
by_answer P X Y (Ok a) ok err f g = f ok
by_answer P X Y (Err e) ok err f g = g err

-- a change at one place under an index whose stamp was raised before it
pub change_stamped : {old mid : GridState} (new : GridState) (index : List ℕ) → mid ≡ stamped_so old (raised index old.stamps) → {A E : Type 0} (number server : ℕ) (change : Option (List ℕ) → Option (List ℕ)) (result : Result A E) (P : Type 0)
    → (P → stood new ≡ changed_at server (index, number) change (stood old)) → new.stamps ≡ mid.stamps → (IsHonest mid → OnOk result P) → (IsHonest mid → OnErr result (HoldsAsBefore mid new)) → IsStamped old new
change_stamped {old} {mid} new index is number server change result P stands stamps ok err =
    raise_stamped old new index (stamps ∙ ap (λ (g : GridState). g.stamps) is)
    (λ all. (let honest : IsHonest mid = subst IsHonest (sym is) all in
    by_answer (SameBut index (stood old) (stood new)) P (HoldsAsBefore mid new) result (ok honest) (err honest)
    (λ p. same_but_changed index number server change (stood old) (stood new) (stands p))
    (λ held. same_but_held index old new (held_raised new index is held))))

pub by_fault : {A E : Type 0} (P X : Type 0) (Y : E → Type 0) (r : Result A E) → OnOk r X → IfErr r Y → (X → P) → ((e : E) → Y e → P) → P
by_fault P X Y (Ok a) ok err f g = f ok
by_fault P X Y (Err e) ok err f g = g e err

pub if_err_weaker : {A E : Type 0} (r : Result A E) (X Y : E → Type 0) → ((e : E) → X e → Y e) → IfErr r X → IfErr r Y
if_err_weaker (Ok a) X Y f err = tt
if_err_weaker (Err e) X Y f err = f e err
