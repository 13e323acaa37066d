-- The one Range field.
use Rattle.std.proofs.Common.{◌≡◌, ◌≢◌, Bool, true, false, cond, List, [], ◌∷◌, length, Option, Some, None, refl, ◌∙◌, arith}
use Rattle.std.specs.List.{filter, find, count_by}
use Rattle.std.proofs.lemmas.List.Sums.{length-filter}
use Rattle.web_request.specs.declared.head.Field.{Field}
use Rattle.web_request.specs.Ranges.{only_element, is_range, one_range}

-- the first element, if there is one
abbrev first_of : {A : Type 0} → List A → Option A
first_of [] = None
first_of (x ∷ xs) = Some x

find_first : {A : Type 0} (p : A → Bool) (xs : List A) → find p xs ≡ first_of (filter p xs)
find_first p [] = refl
find_first p (x ∷ xs) = elim (p x) as (λ v. cond v (Some x) (find p xs) ≡ first_of (cond v (x ∷ filter p xs) (filter p xs))) [
  | true ↦ refl
  | false ↦ find_first p xs
]

only_one : {A : Type 0} (xs : List A) → length xs ≡ 1 → first_of xs ≡ only_element xs
only_one [] one = absurd (omega arith)
only_one (x ∷ []) one = refl
only_one (x ∷ y ∷ more) one = absurd (omega arith)

not_one : {A : Type 0} (xs : List A) → length xs ≢ 1 → None ≡ only_element xs
not_one [] other = refl
not_one (x ∷ []) other = absurd (other refl)
not_one (x ∷ y ∷ more) other = refl

pub one_is_first : (fields : List Field) → count_by is_range fields ≡ 1 → find is_range fields ≡ one_range fields
one_is_first fields one = find_first is_range fields ∙ only_one (filter is_range fields) (let size = length-filter is_range fields in omega arith)

pub not_one_range : (fields : List Field) → count_by is_range fields ≢ 1 → None ≡ one_range fields
not_one_range fields other = not_one (filter is_range fields) (λ one. other (let size = length-filter is_range fields in omega arith))
