-- Those of numbers below a limit, where there is one.
use Rattle.std.proofs.Common.{◌≡◌, ℕ, zero, suc, Bool, true, false, cond, List, [], ◌∷◌, ◌++◌, map, filter, Option, None, Some, slice_get, All, refl, ap}
use Rattle.std.specs.Prelude.{nat_lt}
use Rattle.std.proofs.lemmas.List.Elements.{filter-append, All-filter}
use Rattle.share_store.specs.NumberedShares.{below_limit}

-- ---- what passes a test

filter-map : {A B : Type 0} (p : B → Bool) (f : A → B) (xs : List A) → filter p (map f xs) ≡ map f (filter (λ x. p (f x)) xs)
filter-map p f [] = refl
filter-map p f (x ∷ xs) = by_case (p (f x)) (filter-map p f xs)
  where
    by_case : (b : Bool) → filter p (map f xs) ≡ map f (filter (λ y. p (f y)) xs)
        → cond b (f x ∷ filter p (map f xs)) (filter p (map f xs)) ≡ map f (cond b (x ∷ filter (λ y. p (f y)) xs) (filter (λ y. p (f y)) xs))
    by_case true more = ap (λ l. f x ∷ l) more
    by_case false more = more

filtered_at : {A : Type 0} (p : A → Bool) (xs : List A) (i : ℕ) (x : A) → slice_get (filter p xs) i ≡ Some x → (j : ℕ) × (slice_get xs j ≡ Some x)
filtered_at p [] i x at = (i, at)
filtered_at {A} p (y ∷ ys) i x at = by_case (p y) i at (λ k there. let h = filtered_at p ys k x there in (suc h.0, h.1))
  where
    by_case : (b : Bool) (i : ℕ) → slice_get (cond b (y ∷ filter p ys) (filter p ys)) i ≡ Some x
        → ((k : ℕ) → slice_get (filter p ys) k ≡ Some x → (j : ℕ) × (slice_get (y ∷ ys) j ≡ Some x)) → (j : ℕ) × (slice_get (y ∷ ys) j ≡ Some x)
    by_case true zero at more = (zero, at)
    by_case true (suc i) at more = more i at
    by_case false i at more = more i at

-- ---- within a limit

pub within_none : {A : Type 0} (number : A → ℕ) (limit : Option ℕ) → below_limit number limit [] ≡ []
within_none number None = refl
within_none number (Some limit) = refl

pub within_map : {A B : Type 0} (number : B → ℕ) (f : A → B) (limit : Option ℕ) (xs : List A) → below_limit number limit (map f xs) ≡ map f (below_limit (λ x. number (f x)) limit xs)
within_map number f None xs = refl
within_map number f (Some limit) xs = filter-map (λ y. nat_lt (number y) limit) f xs

pub within_append : {A : Type 0} (number : A → ℕ) (limit : Option ℕ) (xs ys : List A) → below_limit number limit (xs ++ ys) ≡ below_limit number limit xs ++ below_limit number limit ys
within_append number None xs ys = refl
within_append number (Some limit) xs ys = filter-append (λ x. nat_lt (number x) limit) xs ys

-- what is within a limit is one of them
pub within_at : {A : Type 0} (number : A → ℕ) (limit : Option ℕ) (xs : List A) (i : ℕ) (x : A) → slice_get (below_limit number limit xs) i ≡ Some x → (j : ℕ) × (slice_get xs j ≡ Some x)
within_at number None xs i x at = (i, at)
within_at number (Some limit) xs i x at = filtered_at (λ y. nat_lt (number y) limit) xs i x at

-- and what all have it has
pub all_within : {A : Type 0} (P : A → Type 0) (number : A → ℕ) (limit : Option ℕ) (xs : List A) → All P xs → All P (below_limit number limit xs)
all_within P number None xs all = all
all_within P number (Some limit) xs all = All-filter (λ x. nat_lt (number x) limit) P xs all
