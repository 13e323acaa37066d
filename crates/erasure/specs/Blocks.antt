-- The code as a function: the value of a polynomial from as many of its values as it has coefficients, by Lagrange's
-- formula.
use Rattle.std.specs.Prelude.{◌≡◌, ◌==◌, ◌<◌, ℕ, zero, suc, List, [], length, map, if◌then◌else◌, bit_xor, slice_index, slice_index_or}
use Rattle.std.specs.List.{range_with_len}
use Rattle.gf_field.specs.Field.{xor_below, mul_of, inverse_of}
use Rattle.erasure.specs.Code.{place_of, column}

-- f 0, f 1 and so on to f (n - 1), multiplied
abbrev pub mul_below : ℕ → (ℕ → ℕ) → ℕ
mul_below zero f = 1
mul_below (suc n) f = mul_of (mul_below n f) (f n)

-- how far x is from each of the points, multiplied; for private clauses
abbrev pub whole_distance_of : List ℕ → ℕ → ℕ
whole_distance_of places x = mul_below (length places) (λ m. bit_xor x (slice_index places m))

-- how far x is from each of the points but point j, multiplied
unfoldable pub distance_of : List ℕ → ℕ → ℕ → ℕ
distance_of places j x = mul_below (length places) (λ m. if m == j then 1 else bit_xor x (slice_index places m))

-- the Lagrange coefficient of point j at x: 1 where x is that point, 0 where it is another of the points
unfoldable pub weight_of : List ℕ → ℕ → ℕ → ℕ
weight_of places j x = mul_of (distance_of places j x) (inverse_of (distance_of places j (slice_index places j)))

-- one for each point: the inverse of how far it is from the others, multiplied
abbrev pub AreInverses : List ℕ → List ℕ → Type 0
AreInverses places inverses =
    (j : ℕ) → j < length places → slice_index inverses j ≡ inverse_of (distance_of places j (slice_index places j))

-- the value at x of the polynomial that has these values at these points
unfoldable pub value_through : List ℕ → List ℕ → ℕ → ℕ
value_through places values x = xor_below (length places) (λ j. mul_of (weight_of places j x) (slice_index values j))

-- how long the first block is
abbrev pub size_of : List (List ℕ) → ℕ
size_of blocks = length (slice_index_or blocks 0 [])

-- byte by byte, the value at x of the polynomial that has these blocks' bytes at these points
unfoldable pub block_through : List ℕ → List (List ℕ) → ℕ → List ℕ
block_through places blocks x = map (λ at. value_through places (column blocks at) x) (range_with_len 0 (size_of blocks))

-- the points of the first k blocks
abbrev pub first_places : ℕ → List ℕ
first_places k = map place_of (range_with_len 0 k)

-- block i of the code of the primary blocks
abbrev pub block_of : List (List ℕ) → ℕ → List ℕ
block_of primary i = block_through (first_places (length primary)) primary (place_of i)

-- the k primary blocks of the code that has these numbered blocks
abbrev pub primary_from : ℕ → List (ℕ × List ℕ) → List (List ℕ)
primary_from k given = map (λ j. block_through (map (λ g. place_of g.0) given) (map (λ g. g.1) given) (place_of j)) (range_with_len 0 k)
