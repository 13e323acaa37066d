-- Polynomials over the field GF(256).
use Rattle.std.specs.Prelude.{ℕ, List, [], ◌∷◌, bit_xor}
use Rattle.gf_field.specs.Field.{mul_of}

-- the value at x of the polynomial with these coefficients, the constant one first
abbrev pub value_at : List ℕ → ℕ → ℕ
value_at [] x = 0
value_at (c ∷ cs) x = bit_xor c (mul_of x (value_at cs x))
