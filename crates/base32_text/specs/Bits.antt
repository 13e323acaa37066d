-- Numbers as bits.
use Rattle.std.specs.Prelude.{ℕ, zero, suc, ◌+◌, ◌*◌, ◌/◌, ◌%◌, ◌^◌, List, [], ◌∷◌, length, take, drop}
use Rattle.std.specs.List.{flat_map}

-- the lowest `width` bits of a number, the highest of them first
unfoldable pub bits_of : ℕ → ℕ → List ℕ
bits_of zero number = []
bits_of (suc width) number = number / 2 ^ width % 2 ∷ bits_of width number

-- numbers of one width, joined as bits
unfoldable pub joined : ℕ → List ℕ → List ℕ
joined width numbers = flat_map (bits_of width) numbers

-- the number that bits write, the highest of them first
unfoldable pub number_of : List ℕ → ℕ
number_of [] = 0
number_of (bit ∷ bits) = bit * 2 ^ length bits + number_of bits

-- the first `count` groups of `width` bits, as numbers
unfoldable pub groups : ℕ → ℕ → List ℕ → List ℕ
groups width zero bits = []
groups width (suc count) bits = number_of (take width bits) ∷ groups width count (drop width bits)
