-- A `BTreeMap` from storage indexes to counts, seen as a finite map; and what raising does.
use Rattle.std.proofs.Common.{◌≡◌, ℕ, List, [], ◌∷◌, cond, Option, Some, unwrap_or, refl, sym, ap, ◌∙◌}
use Rattle.std.specs.Ordering.{nat_cmp, eq_by_cmp}
use Rattle.std.specs.Cmp.{eq_by_cmp_equiv}
use Rattle.std.specs.Cmp.Lexicographic.{slice_cmp, nat_list_cmp_total}
use Rattle.std.specs.BTreeMap.{is_at}
use Rattle.std.specs.Map.{lookup}
use Rattle.std.specs.FinMap as map
use Rattle.grid.specs.Stamps.{Stamps, count_at}

find_lookup : (q : List ℕ) (es : List (List ℕ × ℕ)) → map.find (slice_cmp nat_cmp) q es ≡ lookup (is_at (slice_cmp nat_cmp q)) es
find_lookup q [] = refl
find_lookup q (e ∷ es) = ap (cond (eq_by_cmp (slice_cmp nat_cmp) q e.0) (Some e.1)) (find_lookup q es)

-- what the map has at a key
pub get_viewed : (es : List (List ℕ × ℕ)) (q : List ℕ) → map.get (map.from_entries {R = slice_cmp nat_cmp} es) q ≡ lookup (is_at (slice_cmp nat_cmp q)) es
get_viewed es q = map.get-from_entries nat_list_cmp_total es q ∙ find_lookup q es

-- a value that is put at a key
pub written : (es fs : List (List ℕ × ℕ)) (k : List ℕ) (v : ℕ) → ((q : List ℕ) → lookup (is_at (slice_cmp nat_cmp q)) fs ≡ cond (is_at (slice_cmp nat_cmp k) q) (Some v) (lookup (is_at (slice_cmp nat_cmp q)) es))
    → map.from_entries {R = slice_cmp nat_cmp} fs ≡ map.insert (map.from_entries es) k v
written es fs k v puts =
    map.same_map nat_list_cmp_total (map.slice_cmp-IsAntisymmetric map.nat_cmp-IsAntisymmetric) _ _ (λ q.
    get_viewed fs q ∙ puts q
    ∙ ap (cond (is_at (slice_cmp nat_cmp k) q) (Some v)) (sym (get_viewed es q))
    ∙ ap (λ b. cond b (Some v) (map.get (map.from_entries {R = slice_cmp nat_cmp} es) q)) ((eq_by_cmp_equiv nat_list_cmp_total).symm k q)
    ∙ sym (map.get-insert nat_list_cmp_total (map.from_entries es) k v q))

-- the count that a look-up finds
pub found_count : (es : List (List ℕ × ℕ)) (k : List ℕ) (stamps : Stamps) (o : Option ℕ) → map.from_entries es ≡ stamps → o ≡ lookup (is_at (slice_cmp nat_cmp k)) es → unwrap_or o 0 ≡ count_at stamps k
found_count es k stamps o is found = ap (λ m. unwrap_or m 0) (found ∙ sym (get_viewed es k)) ∙ ap (λ m. count_at m k) is
