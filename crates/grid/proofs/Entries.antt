-- A map's entries and its look-ups.
use Rattle.std.proofs.Common.{◌≡◌, ◌⊎◌, inl, inr, ℕ, zero, suc, ◌<◌, ◌≤◌, Bool, true, false, cond, ◌&&◌, T, List, [], ◌∷◌, length, Option, Some, None, slice_get, get_or, Result, Ok, Err, IfOk, IfSome, nat_eq, refl, sym, ap, subst, ◌∙◌, arith, option_and_then}
use Rattle.std.proofs.lemmas.Bool.{eqb-true}
use Rattle.std.proofs.lemmas.Option.{slice_get_cases}
use Rattle.std.specs.Option.{option_map, option_map_or}
use Rattle.std.specs.declared.cmp.Ordering.{Ordering}
use Rattle.std.specs.declared.cmp.Ordering.TheVariants.{Less, Equal, Greater}
use Rattle.std.specs.Ordering.{is_lt, is_eq, ordering_reverse}
use Rattle.std.specs.Cmp.{tied_itself}
use Rattle.std.specs.Cmp.Lexicographic.{pointwise}
use Rattle.std.specs.FinMap.{find, get, entries, is_sorted, entries_sorted, get-entries}
use Rattle.std.specs.FinMap.Entries.{below_all}
use Rattle.share_store.specs.Shares.{Shares, ShareKey, ShareEntry, key_cmp}
use Rattle.share_store.specs.Stored.{entry_of}
use Rattle.share_store.specs.declared.share.Share.{Share}
use Rattle.grid.specs.Standing.{standing}
use Rattle.grid.specs.Found.{entries_at}
use Rattle.share_store.specs.MapLaws.{key_cmp_total}

pub left : (a b : Bool) → a && b ≡ true → a ≡ true
left true b h = refl
left false b h = h

pub right : (a b : Bool) → a && b ≡ true → b ≡ true
right true b h = h
right false b h = cc

pub less : (r : Ordering) → is_lt r ≡ true → r ≡ Less
less Less h = refl
less Equal h = cc
less Greater h = cc

pub is_true : (b : Bool) → T b → b ≡ true
is_true true h = refl
is_true false h = absurd h

-- bytes that pass the test are the same
pub same_bytes : (xs ys : List ℕ) → pointwise nat_eq xs ys ≡ true → xs ≡ ys
same_bytes [] [] h = refl
same_bytes [] (y ∷ ys) h = cc
same_bytes (x ∷ xs) [] h = cc
same_bytes (x ∷ xs) (y ∷ ys) h = λ i. eqb-true x y (left _ _ h) i ∷ same_bytes xs ys (right (nat_eq x y) _ h) i

-- a key below all is below each
below_at : {X : Type 0} (x : ShareKey) (es : List (ShareKey × X)) → below_all key_cmp x es ≡ true → (i : ℕ) (e : ShareKey × X) → slice_get es i ≡ Some e → key_cmp x e.0 ≡ Less
below_at x [] h i e at = cc
below_at {X} x (f ∷ es) h zero e at = let same : f ≡ e = cc in subst (λ (y : ShareKey × X). key_cmp x y.0 ≡ Less) same (less _ (left _ _ h))
below_at x (f ∷ es) h (suc i) e at = below_at x es (right (is_lt (key_cmp x f.0)) _ h) i e at

find_at : (es : List ShareEntry) (k : ShareKey) (v : List ℕ) (i : ℕ) → slice_get es i ≡ Some (k, v) → is_sorted key_cmp es ≡ true → find key_cmp k es ≡ Some v
find_at [] k v i at h = cc
find_at (e ∷ es) k v zero at h =
    let same : e ≡ (k, v) = cc in
    subst (λ (f : ShareEntry). find key_cmp k (f ∷ es) ≡ Some v) (sym same) (ap (λ r. cond (is_eq r) (Some v) (find key_cmp k es)) (tied_itself key_cmp_total k))
find_at (e ∷ es) k v (suc i) at h =
    let here : key_cmp k e.0 ≡ Greater = key_cmp_total.antisymm k e.0 ∙ ap ordering_reverse (below_at e.0 es (left _ _ h) i (k, v) at) in
    ap (λ r. cond (is_eq r) (Some e.1) (find key_cmp k es)) here ∙ find_at es k v i at (right (below_all key_cmp e.0 es) _ h)

-- an entry of a map is what it answers at its key
pub get_entry : (m : Shares) (i : ℕ) (key : ShareKey) (bytes : List ℕ) → slice_get (entries m) i ≡ Some (key, bytes) → get m key ≡ Some bytes
get_entry m i key bytes at = get-entries m key ∙ find_at (entries m) key bytes i at (is_true _ (entries_sorted m))

-- an entry of a server's map stands there
pub entry_stands : (maps : List Shares) (server i : ℕ) (key : ShareKey) (bytes : List ℕ) →
    slice_get (entries_at maps server) i ≡ Some (key, bytes) → standing maps server key ≡ Some bytes
entry_stands maps server i key bytes at = by_case (slice_get_cases maps server).1
  where
    by_case : ((x : Shares) × (server < length maps) × (slice_get maps server ≡ Some x) × (get_or maps server x ≡ x)) ⊎ ((length maps ≤ server) × (slice_get maps server ≡ None)) → standing maps server key ≡ Some bytes
    by_case (inl (x, lt, here, read)) =
        let es : entries_at maps server ≡ entries x = ap (λ o. option_map_or entries o []) here in
        ap (λ o. option_and_then (λ (m : Shares). get m key) o) here ∙ get_entry x i key bytes (ap (λ l. slice_get l i) (sym es) ∙ at)
    by_case (inr h) =
        let es : entries_at maps server ≡ [] = ap (λ o. option_map_or entries o []) h.1 in
        let none = ap (λ l. slice_get l i) (sym es) ∙ at in cc

-- a share that was given stood at its place, whether or not the store's count of failures rose
pub given_stood : {E : Type 0} (result : Result (Option Share) E) (old new : ℕ) (es : List ShareEntry) (at : ℕ) → old ≤ new → (old < new → result ≡ Ok None) →
    (new ≡ old → IfOk result (λ share. option_map entry_of share ≡ slice_get es at)) → IfOk result (λ share. IfSome share (λ share. slice_get es at ≡ Some (entry_of share)))
given_stood (Err e) old new es at rises failed found = tt
given_stood (Ok None) old new es at rises failed found = tt
given_stood (Ok (Some share)) old new es at rises failed found = by_case (grind arith)
  where
    by_case : (new ≡ old) ⊎ (old < new) → slice_get es at ≡ Some (entry_of share)
    by_case (inl same) = sym (found same)
    by_case (inr rose) = let no = failed rose in cc
