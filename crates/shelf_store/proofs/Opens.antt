-- Shares taken one after the other, by their lengths.
use Rattle.std.proofs.Common.{◌≡◌, ◌<◌, ◌≤◌, ℕ, zero, suc, ◌+◌, Bool, true, false, cond, ◌&&◌, List, [], ◌∷◌, ◌++◌, map, length, Option, Some, None, refl, sym, ap, ◌∙◌, arith, add-one, T}
use Rattle.std.proofs.lemmas.List.{take_all, length-map}
use Rattle.std.specs.List.{fold}
use Rattle.std.specs.Prelude.{take, slice_get, unwrap_or}
use Rattle.std.specs.Option.{option_or, option_map}
use Rattle.std.specs.Ordering.{eq_by_cmp, is_lt}
use Rattle.std.specs.FinMap.{find, get, entries, entries_sorted, empty, from_sorted, is_sorted, get-entries, get-empty, get-from_sorted, entries-from_sorted}
use Rattle.std.specs.FinMap.Entries.{below_all}
use Rattle.share_store.specs.Shares.{Shares, ShareKey, ShareEntry, bytes_in, bytes_of, key_cmp}
use Rattle.share_store.specs.Put.{put_once}
use Rattle.share_store.proofs.Nth.{more, entry_at, found_at}
use Rattle.share_store.proofs.Puts.{get-put}
use Rattle.shelf_store.specs.Sizes.{sizes_of}
use Rattle.shelf_store.specs.SizeLaws.{sizes_as, bytes_as}

-- as long as these, and no others
abbrev pub IsBegun : Shares → List ShareEntry → Type 0
IsBegun s es = (q : ShareKey) → option_map length (get s q) ≡ option_map length (find key_cmp q es)

pub begun_none : (s : Shares) (es : List ShareEntry) → s ≡ empty → IsBegun s (take 0 es)
begun_none s es is q = ap (λ (n : Shares). option_map length (get n q)) is ∙ ap (option_map length) (get-empty key_cmp q)

find-push : (q : ShareKey) (es : List ShareEntry) (e : ShareEntry) → find key_cmp q (es ++ e ∷ []) ≡ option_or (find key_cmp q es) (cond (eq_by_cmp key_cmp q e.0) (Some e.1) None)
find-push q [] e = refl
find-push q (x ∷ es) e = by_case (eq_by_cmp key_cmp q x.0) (find-push q es e)
  where
    by_case : (t : Bool) → find key_cmp q (es ++ e ∷ []) ≡ option_or (find key_cmp q es) (cond (eq_by_cmp key_cmp q e.0) (Some e.1) None)
        → cond t (Some x.1) (find key_cmp q (es ++ e ∷ [])) ≡ option_or (cond t (Some x.1) (find key_cmp q es)) (cond (eq_by_cmp key_cmp q e.0) (Some e.1) None)
    by_case true rest = refl
    by_case false rest = rest

-- one more, by its length
begun_push : (s : Shares) (es : List ShareEntry) (e : ShareEntry) (b : List ℕ) → IsBegun s es → length b ≡ length e.1 → IsBegun (put_once s e.0 b) (es ++ e ∷ [])
begun_push s es e b begun long q =
    ap (option_map length) (get-put s e.0 b q) ∙ by_case (eq_by_cmp key_cmp q e.0) (get s q) (find key_cmp q es) (begun q) ∙ sym (ap (option_map length) (find-push q es e))
  where
    by_case : (t : Bool) (o p : Option (List ℕ)) → option_map length o ≡ option_map length p → option_map length (cond t (Some (unwrap_or o b)) o) ≡ option_map length (option_or p (cond t (Some e.1) None))
    by_case true None None is = ap Some long
    by_case true None (Some y) is = cc
    by_case true (Some x) None is = cc
    by_case true (Some x) (Some y) is = is
    by_case false None None is = refl
    by_case false None (Some y) is = cc
    by_case false (Some x) None is = cc
    by_case false (Some x) (Some y) is = is

-- what a name of the list stands for
pub named : (m : Shares) (names : List ShareKey) (i : ℕ) (key : ShareKey) → names ≡ map (λ (e : ShareEntry). e.0) (entries m) → slice_get names i ≡ Some key → (b : List ℕ) × (slice_get (entries m) i ≡ Some (key, b)) × (get m key ≡ Some b)
named m names i key are at =
    let e = entry_at (entries m) i key (ap (λ (l : List ShareKey). slice_get l i) (sym are) ∙ at) in
    (e.0, e.1, found_at m i key e.0 e.1)

-- the share of the next name, beside those before it
pub next_taken : (m : Shares) (names : List ShareKey) (i : ℕ) (key : ShareKey) (s n : Shares) (blank : ℕ → List ℕ) → ((size : ℕ) → length (blank size) ≡ size) → names ≡ map (λ (e : ShareEntry). e.0) (entries m) → slice_get names i ≡ Some key
    → IsBegun s (take i (entries m)) → ((b : List ℕ) → get m key ≡ Some b → n ≡ put_once s key (blank (length b))) → IsBegun n (take (i + 1) (entries m))
next_taken m names i key s n blank long are at begun taken =
    let e = named m names i key are at in
    let grown : take (i + 1) (entries m) ≡ take i (entries m) ++ (key, e.0) ∷ [] = rw add-one (more (entries m) i (key, e.0) e.1) in
    let is : n ≡ put_once s key (blank (length e.0)) = taken e.0 e.2 in
    let begun_there = begun_push s (take i (entries m)) (key, e.0) (blank (length e.0)) begun (long (length e.0)) in
    λ q. ap (λ (l : Shares). option_map length (get l q)) is ∙ begun_there q ∙ ap (λ (l : List ShareEntry). option_map length (find key_cmp q l)) (sym grown)

-- past the last name
pub all_taken : (m : Shares) (names : List ShareKey) (i : ℕ) (s : Shares) → names ≡ map (λ (e : ShareEntry). e.0) (entries m) → length names ≤ i → IsBegun s (take i (entries m)) → sizes_of s ≡ sizes_of m
all_taken m names i s are past begun =
    let few : length (entries m) ≤ i = omega (arith, ap (λ (l : List ShareKey). length l) are, length-map (entries m) (λ (e : ShareEntry). e.0)) in
    sizes_as s m (λ q. begun q ∙ ap (λ (l : List ShareEntry). option_map length (find key_cmp q l)) (take_all i (entries m) few) ∙ ap (option_map length) (sym (get-entries m q)))

-- ---- their bytes

below-take : (x : ShareKey) (i : ℕ) (es : List ShareEntry) → T (below_all key_cmp x es) → T (below_all key_cmp x (take i es))
below-take x zero [] h = tt
below-take x zero (e ∷ es) h = tt
below-take x (suc i) [] h = tt
below-take x (suc i) (e ∷ es) h = by_case (is_lt (key_cmp x e.0)) h (below-take x i es)
  where
    by_case : (t : Bool) → T (t && below_all key_cmp x es) → (T (below_all key_cmp x es) → T (below_all key_cmp x (take i es))) → T (t && below_all key_cmp x (take i es))
    by_case true h rest = rest h
    by_case false h rest = h

sorted-take : (i : ℕ) (es : List ShareEntry) → T (is_sorted key_cmp es) → T (is_sorted key_cmp (take i es))
sorted-take zero [] h = tt
sorted-take zero (e ∷ es) h = tt
sorted-take (suc i) [] h = tt
sorted-take (suc i) (e ∷ es) h = by_case (below_all key_cmp e.0 es) (below_all key_cmp e.0 (take i es)) h (below-take e.0 i es) (sorted-take i es)
  where
    by_case : (t u : Bool) → T (t && is_sorted key_cmp es) → (T t → T u) → (T (is_sorted key_cmp es) → T (is_sorted key_cmp (take i es))) → T (u && is_sorted key_cmp (take i es))
    by_case true true h below rest = rest h
    by_case true false h below rest = below tt
    by_case false u h below rest = absurd h

grows : (z : ℕ) (es : List ShareEntry) → z ≤ fold (λ a (e : ShareEntry). a + length e.1) z es
grows z [] = omega arith
grows z (e ∷ es) = omega (arith, grows (z + length e.1) es)

part : (z : ℕ) (es : List ShareEntry) (i : ℕ) (e : ShareEntry) → slice_get es i ≡ Some e → fold (λ a (f : ShareEntry). a + length f.1) z (take i es) + length e.1 ≤ fold (λ a (f : ShareEntry). a + length f.1) z es
part z [] i e is = cc
part z (x ∷ es) zero e is = let same : length x.1 ≡ length e.1 = ap (λ (o : Option ShareEntry). elim o [ None ↦ 0 | Some f ↦ length f.1 ]) is in omega (arith, grows (z + length x.1) es)
part z (x ∷ es) (suc i) e is = part (z + length x.1) es i e is

-- where a share doesn't fit beside those before it, they all don't
pub too_many : (m : Shares) (names : List ShareKey) (i : ℕ) (key : ShareKey) (s : Shares) (room held whole : ℕ) → names ≡ map (λ (e : ShareEntry). e.0) (entries m) → slice_get names i ≡ Some key → IsBegun s (take i (entries m))
    → ((b : List ℕ) → get m key ≡ Some b → room < length b) → held ≡ bytes_of s → room + held ≡ whole → whole < bytes_of m
too_many m names i key s room held whole are at begun long has sum =
    let e = named m names i key are at in
    let es : List ShareEntry = take i (entries m) in
    let rise : T (is_sorted key_cmp es) = sorted-take i (entries m) (entries_sorted m) in
    let first : Shares = from_sorted {R = key_cmp} es in
    let same : sizes_of s ≡ sizes_of first = sizes_as s first (λ q. begun q ∙ ap (option_map length) (sym (get-from_sorted key_cmp es q rise))) in
    let bytes : bytes_of s ≡ bytes_in es = bytes_as s first same ∙ ap bytes_in (entries-from_sorted key_cmp es rise) in
    let whole_part : bytes_in es + length e.0 ≤ bytes_of m = part 0 (entries m) i (key, e.0) e.1 in
    omega (arith, long e.0 e.2, bytes, whole_part, has, sum)
