-- What stores tell of calls, one after the other.
use Rattle.std.proofs.Common.{◌≡◌, ◌⊎◌, inl, inr, ℕ, zero, suc, ◌+◌, Bool, true, false, ◌==◌, ◌&&◌, nat_lt, List, [], ◌∷◌, ◌++◌, length, take, Option, Some, unwrap_or, slice_get, if◌then◌else◌, refl, sym, ap, ◌∙◌, arith}
use Rattle.std.proofs.lemmas.Bool.Decides.{nat_tests}
use Rattle.std.proofs.lemmas.List.{append-nil, append_assoc}
use Rattle.std.specs.List.{AllByRecursion}
use Rattle.std.specs.Ordering.{eq_by_cmp, nat_cmp}
use Rattle.std.specs.Cmp.Lexicographic.{slice_cmp}
use Rattle.std.specs.FinMap.{get}
use Rattle.share_store.specs.Shares.{Shares, ShareKey}
use Rattle.share_store.specs.History.{History, GoesOnBy}
use Rattle.grid.specs.Standing.{Standing}
use Rattle.grid.specs.GridState.{GridState, stood, history_at}
use Rattle.grid.specs.Placement.{server_of, placed}
use Rattle.grid.specs.Changes.{put_at}
use Rattle.grid.specs.Changed.{ArePut}
use Rattle.grid.specs.Histories.{IsBetween, TellsOfChange}
use Rattle.grid.proofs.Standing.{placed_next}

all_weaker : {X : Type 0} (P Q : X → Type 0) (xs : List X) → ((x : X) → P x → Q x) → AllByRecursion P xs → AllByRecursion Q xs
all_weaker P Q [] f all = tt
all_weaker P Q (x ∷ xs) f all = (f x all.0, all_weaker P Q xs f all.1)

all_both : {X : Type 0} (P : X → Type 0) (xs ys : List X) → AllByRecursion P xs → AllByRecursion P ys → AllByRecursion P (xs ++ ys)
all_both P [] ys a b = b
all_both P (x ∷ xs) ys a b = (a.0, all_both P xs ys a.1 b)

pub goes_on_none : (P : Shares → Type 0) (old new : History) → new ≡ old → GoesOnBy P old new
goes_on_none P old new same before is = ([], (same ∙ is ∙ ap Some (sym (append-nil before)), tt))

pub goes_on_weaker : (P Q : Shares → Type 0) (old new : History) → ((m : Shares) → P m → Q m) → GoesOnBy P old new → GoesOnBy Q old new
goes_on_weaker P Q old new f goes before is = let on = goes before is in (on.0, (on.1.0, all_weaker P Q on.0 f on.1.1))

pub goes_on_both : (P : Shares → Type 0) (old mid new : History) → GoesOnBy P old mid → GoesOnBy P mid new → GoesOnBy P old new
goes_on_both P old mid new a b before is =
    let on = a before is in
    let further = b (before ++ on.0) on.1.0 in
    (on.0 ++ further.0, (further.1.0 ∙ ap Some (append_assoc before on.0 further.0), all_both P on.0 further.0 on.1.1 further.1.1))

-- a grid that stayed tells of any change
pub tells_none : (asked : Standing) (old new : GridState) → new ≡ old → TellsOfChange asked old new
tells_none asked old new same s = goes_on_none _ _ _ (ap (λ (g : GridState). history_at g s) same)

-- the first of the shares put leave at each place what stood there, or what all of them leave
pub placed_part : (count : ℕ) (index : List ℕ) (xs : List (List ℕ)) (n : ℕ) (before : Standing) (s : ℕ) (q : ShareKey)
    → (placed count index (take n xs) before s q ≡ before s q) ⊎ (placed count index (take n xs) before s q ≡ placed count index xs before s q)
placed_part count index xs n before s q =
    by_case (eq_by_cmp (slice_cmp nat_cmp) q.0 index) (nat_lt q.1 (length (take n xs))) (nat_lt q.1 (length xs)) (s == server_of count index q.1) (slice_get (take n xs) q.1) (slice_get xs q.1) (before s q) (within xs n q.1)
  where
    within : (xs : List (List ℕ)) (n i : ℕ) → nat_lt i (length (take n xs)) ≡ true → (nat_lt i (length xs) ≡ true) × (slice_get (take n xs) i ≡ slice_get xs i)
    within xs zero i lt = absurd (grind (arith, nat_tests))
    within [] (suc n) i lt = (lt, refl)
    within (x ∷ xs) (suc n) zero lt = (grind (arith, nat_tests), refl)
    within (x ∷ xs) (suc n) (suc i) lt =
        let less : nat_lt i (length (take n xs)) ≡ true = grind (arith, nat_tests) in
        let in_rest = within xs n i less in
        (grind (arith, nat_tests, in_rest.0), in_rest.1)

    by_case : (a part all here : Bool) (of_part of_all was : Option (List ℕ)) → (part ≡ true → (all ≡ true) × (of_part ≡ of_all))
        → ((if a && part && here then Some (unwrap_or was (unwrap_or of_part [])) else was) ≡ was)
        ⊎ ((if a && part && here then Some (unwrap_or was (unwrap_or of_part [])) else was) ≡ (if a && all && here then Some (unwrap_or was (unwrap_or of_all [])) else was))
    by_case false part all here of_part of_all was same = inl refl
    by_case true false all here of_part of_all was same = inl refl
    by_case true true false here of_part of_all was same = let no = (same refl).0 in cc
    by_case true true true here of_part of_all was same = inr (ap (λ o. if here then Some (unwrap_or was (unwrap_or o [])) else was) (same refl).1)

-- one more share was put, or was refused
pub tells_next : (index : List ℕ) (xs : List (List ℕ)) (n server : ℕ) (x : List ℕ) (old mid new : GridState) → slice_get xs n ≡ Some x → server ≡ server_of (length old.stores) index n
    → ArePut index (take n xs) old mid → TellsOfChange (placed (length old.stores) index xs (stood old)) old mid
    → TellsOfChange (put_at server (index, n) x (stood mid)) mid new → TellsOfChange (placed (length old.stores) index xs (stood old)) old new
tells_next index xs n server x old mid new at here so_far told next s =
    goes_on_both (IsBetween (stood old) (placed (length old.stores) index xs (stood old)) s) _ _ _ (told s)
    (goes_on_weaker (IsBetween (stood mid) (put_at server (index, n) x (stood mid)) s) (IsBetween (stood old) (placed (length old.stores) index xs (stood old)) s) _ _ either (next s))
  where
    asked : put_at server (index, n) x (stood mid) ≡ placed (length old.stores) index (take (n + 1) xs) (stood old)
    asked =
        ap (λ k. put_at k (index, n) x (stood mid)) here
        ∙ ap (put_at (server_of (length old.stores) index n) (index, n) x) so_far.stands
        ∙ sym (placed_next (length old.stores) index xs n x (stood old) at)

    part : (m : Shares) (k : ℕ) (key : ShareKey) → get m key ≡ placed (length old.stores) index (take k xs) (stood old) s key
        → (get m key ≡ stood old s key) ⊎ (get m key ≡ placed (length old.stores) index xs (stood old) s key)
    part m k key is = elim (placed_part (length old.stores) index xs k (stood old) s key) [ inl e ↦ inl (is ∙ e) | inr e ↦ inr (is ∙ e) ]

    either : (m : Shares) → IsBetween (stood mid) (put_at server (index, n) x (stood mid)) s m → IsBetween (stood old) (placed (length old.stores) index xs (stood old)) s m
    either m is key = elim (is key) [
      | inl e ↦ part m n key (e ∙ ap (λ f. f s key) so_far.stands)
      | inr e ↦ part m (n + 1) key (e ∙ ap (λ f. f s key) asked)
    ]
