-- The decimal text of a number.
use Rattle.std.specs.Prelude.{ℕ, zero, suc, ◌+◌, List, [], ◌∷◌, map}
use Rattle.std.specs.Int.Digits.{digits_of}

-- the digits of n in ASCII, the highest first, with no leading zero
unfoldable pub decimal_text : ℕ → List ℕ
decimal_text zero = 48 ∷ []
decimal_text (suc n) = map (λ digit. 48 + digit) (digits_of 10 (suc n))
