-- What a list contains.
use Rattle.std.proofs.Common.{◌≡◌, ◌⊎◌, inl, inr, ℕ, zero, suc, ◌+◌, ◌<◌, List, [], ◌∷◌, refl, sym, subst, arith}
use Rattle.std.specs.Prelude.{Contains, All, AllPairs, ◌≢◌}
use Rattle.std.specs.List.{range_with_len}
use Rattle.std.proofs.lemmas.List.Elements.{Contains-append_right}
use Rattle.std.proofs.lemmas.List.FromFn.{length-range_with_len, get_or-range_with_len}

module _ {X : Type 0} where
  pub Contains-here : (x : X) (xs : List X) → Contains (x ∷ xs) x
  Contains-here x xs = (0, grind arith, refl)

  pub Contains-there : (y : X) (xs : List X) (x : X) → Contains xs x → Contains (y ∷ xs) x
  Contains-there y xs x there = Contains-append_right (y ∷ []) xs x there

  pub Contains-cons_cases : (y : X) (xs : List X) (x : X) → Contains (y ∷ xs) x → Contains xs x ⊎ (y ≡ x)
  Contains-cons_cases y xs x (zero, below, is) = inr is
  Contains-cons_cases y xs x (suc k, below, is) = inl (k, grind arith, is)

  pub none_in_nothing : (x : X) → Contains [] x → ⊥
  none_in_nothing x (k, below, is) = omega arith

-- what holds of each number below a bound
pub All-range : (P : ℕ → Type 0) (n : ℕ) → ((i : ℕ) → i < n → P i) → All P (range_with_len 0 n)
All-range P n each k d below =
    let long = length-range_with_len 0 n in
    subst P (sym (get_or-range_with_len 0 n k d (omega arith))) (each (0 + k) (omega arith))

pub range_apart : (n : ℕ) → AllPairs (λ x y. x ≢ y) (range_with_len 0 n)
range_apart n i j d lt below e =
    let long = length-range_with_len 0 n in
    let one = get_or-range_with_len 0 n i d (omega arith) in
    let other = get_or-range_with_len 0 n j d (omega arith) in
    omega arith
