-- The share at a place, by index and then by number.
use Rattle.std.proofs.Common.{◌≡◌, ℕ, zero, suc, ◌-◌, ◌<◌, ◌≤◌, List, [], ◌∷◌, ◌++◌, length, slice_get, refl, sym, ap, ◌∙◌, arith}
use Rattle.std.proofs.lemmas.List.{length-map}
use Rattle.share_store.specs.Stored.{Numbers, entries_at, entries_under}

pub later : {A : Type 0} (xs ys : List A) (at : ℕ) → length xs ≤ at → slice_get (xs ++ ys) at ≡ slice_get ys (at - length xs)
later [] ys at past = let e : at ≡ at - 0 = omega arith in ap (slice_get ys) e
later (x ∷ xs) ys zero past = absurd (omega arith)
later (x ∷ xs) ys (suc at) past = later xs ys at (omega arith) ∙ (let e : at - length xs ≡ suc at - length (x ∷ xs) = omega arith in ap (slice_get ys) e)

here : {A : Type 0} (xs ys : List A) (at : ℕ) → at < length xs → slice_get (xs ++ ys) at ≡ slice_get xs at
here [] ys at within = absurd (omega arith)
here (x ∷ xs) ys zero within = refl
here (x ∷ xs) ys (suc at) within = here xs ys at (omega arith)

module _ {B : Type 0} (bytes_in : B → List ℕ) (index : List ℕ) (numbers : Numbers B) (es fs : List (List ℕ × Numbers B)) (is : fs ≡ (index, numbers) ∷ es) (at count : ℕ) (counted : count ≡ length numbers.entries) where
  long : length (entries_at bytes_in index numbers.entries) ≡ count
  long = length-map numbers.entries (λ n. ((index, n.0), bytes_in n.1)) ∙ sym counted

  -- among the shares of the first index
  pub at_first : at < count → slice_get (entries_under bytes_in fs) at ≡ slice_get (entries_at bytes_in index numbers.entries) at
  at_first within = ap (λ gs. slice_get (entries_under bytes_in gs) at) is ∙ here (entries_at bytes_in index numbers.entries) (entries_under bytes_in es) at (omega (arith, long))
