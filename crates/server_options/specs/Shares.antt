-- How `--shares` says K and N: two numbers in decimal, with a comma between them.
use Rattle.std.specs.Prelude.{◌≡◌, ◌==◌, ℕ, List}
use Rattle.std.specs.List.{before_first, after_first}
use Rattle.std.specs.Str.Parse.{digits_value, without_leading_plus, IsNumeral}

-- a text is this number: digits, one or more, behind a plus or none
pub record IsCountOf (text : List ℕ) (n : ℕ) : Type 0 where
  pub digits : IsNumeral 10 (without_leading_plus text)
  pub value : digits_value 10 (without_leading_plus text) ≡ n

-- a text is these two numbers: one stands before its first comma, the other behind it
pub record IsPairOf (text : List ℕ) (first second : ℕ) : Type 0 where
  pub front : IsCountOf (before_first (λ b. b == 44) text) first
  pub back : IsCountOf (after_first (λ b. b == 44) text) second
