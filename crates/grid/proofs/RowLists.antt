-- Rows that are gathered one by one.
use Rattle.std.proofs.Common.{◌≡◌, ◌+◌, ℕ, zero, suc, List, [], ◌∷◌, ◌++◌, map, take, Some, slice_get, ap, ◌∙◌, add-one}

-- one more of the mapped elements
more_mapped : {A B : Type 0} (f : A → B) (xs : List A) (i : ℕ) (x : A) → slice_get xs i ≡ Some x → map f (take (suc i) xs) ≡ map f (take i xs) ++ f x ∷ []
more_mapped f [] i x at = cc
more_mapped f (y ∷ ys) zero x at = let same : y ≡ x = cc in ap (λ z. f z ∷ []) same
more_mapped f (y ∷ ys) (suc i) x at = ap (λ t. f y ∷ t) (more_mapped f ys i x at)

pub map_take_more : {A B : Type 0} (f : A → B) (xs : List A) (i : ℕ) (x : A) → slice_get xs i ≡ Some x → map f (take (i + 1) xs) ≡ map f (take i xs) ++ f x ∷ []
map_take_more f xs i x at = ap (λ n. map f (take n xs)) (add-one i) ∙ more_mapped f xs i x at
