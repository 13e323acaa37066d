-- Laws of shares that are as long as others.
use Rattle.std.proofs.Common.{◌≡◌, ◌<◌, ◌+◌, ℕ, Bool, true, false, cond, ◌&&◌, List, [], ◌∷◌, length, Option, Some, None, refl, sym, ap, subst, ◌∙◌, T}
use Rattle.std.specs.List.{fold}
use Rattle.std.specs.Option.{option_map}
use Rattle.std.specs.Ordering.{eq_by_cmp, is_lt}
use Rattle.std.specs.FinMap.{find, get, entries, entries_sorted, from_sorted, entries-from_sorted, get-from_sorted, is_sorted, get-entries, same_map}
use Rattle.std.specs.FinMap.Entries.{below_all}
use Rattle.share_store.specs.Shares.{Shares, ShareKey, ShareEntry, bytes_of, key_cmp}
use Rattle.share_store.specs.MapLaws.{key_cmp_total, key_cmp_exact}
use Rattle.share_store.proofs.Stands.{NoneEmpty, all_from_found, found_from_all}
use Rattle.shelf_store.specs.Sizes.{sizes_in, sizes_of}

-- a key, and a number of bytes
abbrev pub Size : Type 0
Size = ShareKey × ℕ

-- ---- what is found

find-sizes : (q : ShareKey) (es : List ShareEntry) → find key_cmp q (sizes_in es) ≡ option_map length (find key_cmp q es)
find-sizes q [] = refl
find-sizes q (e ∷ es) = by_case (eq_by_cmp key_cmp q e.0) (find-sizes q es)
  where
    by_case : (b : Bool) → find key_cmp q (sizes_in es) ≡ option_map length (find key_cmp q es) → cond b (Some (length e.1)) (find key_cmp q (sizes_in es)) ≡ option_map length (cond b (Some e.1) (find key_cmp q es))
    by_case true rest = refl
    by_case false rest = rest

below-sizes : (x : ShareKey) (es : List ShareEntry) → below_all key_cmp x (sizes_in es) ≡ below_all key_cmp x es
below-sizes x [] = refl
below-sizes x (e ∷ es) = ap (λ b. is_lt (key_cmp x e.0) && b) (below-sizes x es)

sorted-sizes : (es : List ShareEntry) → is_sorted key_cmp (sizes_in es) ≡ is_sorted key_cmp es
sorted-sizes [] = refl
sorted-sizes (e ∷ es) = ap (λ b. b && is_sorted key_cmp (sizes_in es)) (below-sizes e.0 es) ∙ ap (λ b. below_all key_cmp e.0 es && b) (sorted-sizes es)

sizes_rise : (m : Shares) → T (is_sorted key_cmp (sizes_of m))
sizes_rise m = subst T (sym (sorted-sizes (entries m))) (entries_sorted m)

-- as long at each key
abbrev pub IsAsLong : Shares → Shares → Type 0
IsAsLong a b = (q : ShareKey) → option_map length (get a q) ≡ option_map length (get b q)

find_long : (m : Shares) (q : ShareKey) → find key_cmp q (sizes_of m) ≡ option_map length (get m q)
find_long m q = find-sizes q (entries m) ∙ ap (option_map length) (sym (get-entries m q))

pub as_long : (a b : Shares) → sizes_of a ≡ sizes_of b → IsAsLong a b
as_long a b is q = sym (find_long a q) ∙ ap (find key_cmp q) is ∙ find_long b q

pub sizes_as : (a b : Shares) → IsAsLong a b → sizes_of a ≡ sizes_of b
sizes_as a b long =
    let same = same_map key_cmp_total key_cmp_exact (from_sorted {R = key_cmp} (sizes_of a)) (from_sorted {R = key_cmp} (sizes_of b)) (λ q.
    get-from_sorted key_cmp (sizes_of a) q (sizes_rise a) ∙ find_long a q ∙ long q ∙ sym (get-from_sorted key_cmp (sizes_of b) q (sizes_rise b) ∙ find_long b q)) in
    sym (entries-from_sorted key_cmp (sizes_of a) (sizes_rise a)) ∙ ap entries same ∙ entries-from_sorted key_cmp (sizes_of b) (sizes_rise b)

-- ---- how many bytes they have

sum-sizes : (z : ℕ) (es : List ShareEntry) → fold (λ a (e : ShareEntry). a + length e.1) z es ≡ fold (λ a (s : Size). a + s.1) z (sizes_in es)
sum-sizes z [] = refl
sum-sizes z (e ∷ es) = sum-sizes (z + length e.1) es

pub bytes_as : (a b : Shares) → sizes_of a ≡ sizes_of b → bytes_of a ≡ bytes_of b
bytes_as a b is = sum-sizes 0 (entries a) ∙ ap (fold (λ x (s : Size). x + s.1) 0) is ∙ sym (sum-sizes 0 (entries b))

-- ---- what stands

-- one that stands in one stands in the other
pub stands_as : (a b : Shares) → sizes_of a ≡ sizes_of b → (q : ShareKey) (v : List ℕ) → get b q ≡ Some v → (w : List ℕ) × (get a q ≡ Some w) × (length w ≡ length v)
stands_as a b is q v found = by_case (get a q) refl (as_long a b is q ∙ ap (option_map length) found)
  where
    by_case : (o : Option (List ℕ)) → get a q ≡ o → option_map length o ≡ Some (length v) → (w : List ℕ) × (get a q ≡ Some w) × (length w ≡ length v)
    by_case None at long = cc
    by_case (Some w) at long = let same : length w ≡ length v = cc in (w, at, same)

pub some_as : (a b : Shares) → sizes_of a ≡ sizes_of b → NoneEmpty a → NoneEmpty b
some_as a b is all = all_from_found b (λ q v found.
    let there = stands_as a b is q v found in
    subst (λ n. 0 < n) there.2 (found_from_all a all q there.0 there.1))
