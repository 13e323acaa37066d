-- How many elements of a list pass a test.
use Rattle.std.proofs.Common.{◌≡◌, ℕ, ◌+◌, ◌<◌, ◌≤◌, Bool, true, false, cond, List, [], ◌∷◌, length, refl, ap, subst, sym, ◌∙◌, arith}
use Rattle.std.specs.Prelude.{All, filter, ◌||◌, ◌&&◌}
use Rattle.std.specs.List.{list_any, range_with_len, AllByRecursion}
use Rattle.std.proofs.lemmas.List.Elements.{recursion_from_All}
use Rattle.std.proofs.lemmas.List.FromFn.{length-range_with_len, get_or-range_with_len}

pub both_true : (a b : Bool) → a ≡ true → b ≡ true → (a && b) ≡ true
both_true a b x y = ap (λ t. t && b) x ∙ y

as_many : {X : Type 0} (a b : Bool) → (a ≡ true → b ≡ true) → (x : X) (xs ys : List X) → length xs ≤ length ys → length (cond a (x ∷ xs) xs) ≤ length (cond b (x ∷ ys) ys)
as_many true true h x xs ys le = grind arith
as_many true false h x xs ys le = absurd (let e : false ≡ true = h refl in cc)
as_many false true h x xs ys le = grind arith
as_many false false h x xs ys le = le

either_true : (a b c d : Bool) → (a ≡ true → b ≡ true) → (c ≡ true → d ≡ true) → (a || c) ≡ true → (b || d) ≡ true
either_true true b c d h k e = ap (λ t. t || d) (h refl)
either_true false true c d h k e = refl
either_true false false c d h k e = k e

module _ {X : Type 0} (p q : X → Bool) (more : (x : X) → p x ≡ true → q x ≡ true) where
  -- of a test that is passed more often at least as many
  pub filter_more : (xs : List X) → length (filter p xs) ≤ length (filter q xs)
  filter_more [] = omega arith
  filter_more (x ∷ xs) = as_many (p x) (q x) (more x) x (filter p xs) (filter q xs) (filter_more xs)

  pub any_more : (xs : List X) → list_any p xs ≡ true → list_any q xs ≡ true
  any_more [] e = e
  any_more (x ∷ xs) e = either_true (p x) (q x) (list_any p xs) (list_any q xs) (more x) (any_more xs) e

kept_all : {X : Type 0} (p : X → Bool) (xs : List X) → AllByRecursion (λ x. p x ≡ true) xs → filter p xs ≡ xs
kept_all p [] h = refl
kept_all p (x ∷ xs) h = ap (λ b. cond b (x ∷ filter p xs) (filter p xs)) h.0 ∙ ap (λ ys. x ∷ ys) (kept_all p xs h.1)

in_range : (P : ℕ → Type 0) (n : ℕ) → ((i : ℕ) → i < n → P i) → All P (range_with_len 0 n)
in_range P n each k d below =
    let long = length-range_with_len 0 n in
    subst P (sym (get_or-range_with_len 0 n k d (omega arith))) (each (0 + k) (omega arith))

-- of the numbers below n, of which each passes, there are n
pub all_pass : (p : ℕ → Bool) (n : ℕ) → ((i : ℕ) → i < n → p i ≡ true) → length (filter p (range_with_len 0 n)) ≡ n
all_pass p n each =
    ap length (kept_all p (range_with_len 0 n) (recursion_from_All (λ i. p i ≡ true) (range_with_len 0 n) (in_range (λ i. p i ≡ true) n each))) ∙ length-range_with_len 0 n
