-- Keys, taken apart.
use Rattle.std.proofs.Common.{◌≡◌, ℕ, zero, suc, ◌+◌, ◌-◌, ◌*◌, ◌/◌, ◌%◌, ◌<◌, List, [], ◌∷◌, ◌++◌, length, take, drop, get_or, refl, ap, sym, ◌∙◌, arith, length-append, inl, inr}
use Rattle.std.proofs.lemmas.Bool.{cases_lt}
use Rattle.std.proofs.lemmas.List.{take_at, drop_at}
use Rattle.std.proofs.Math.ListN.{get_or-append}
use Rattle.std.proofs.Math.Seq.{get_or-append_right}
use Rattle.hex.specs.Hex.{IsBytes, decode_of, lower_digits}
use Rattle.hex.proofs.HexLemmas.{length-encode_with, decode_of-encode_lower, decode_of-same}
use Rattle.folder_shelf.specs.Names.{IsKeyInRange}
use Rattle.redis_store.specs.Keys.{digits, key}

-- the bytes of which the digits are
abbrev place : List ℕ → ℕ → List ℕ
place index number = index ++ number / 256 ∷ number % 256 ∷ []

length-place : (index : List ℕ) (number : ℕ) → IsKeyInRange index number → length (place index number) ≡ 18
length-place index number is =
    omega (arith, length-append index (number / 256 ∷ number % 256 ∷ []), is.long)

last_two : (a b i : ℕ) → a < 256 → b < 256 → get_or (a ∷ b ∷ []) i 0 < 256
last_two a b zero ha hb = ha
last_two a b (suc zero) ha hb = hb
last_two a b (suc (suc i)) ha hb = omega arith

place_bytes : (index : List ℕ) (number : ℕ) → IsKeyInRange index number → IsBytes (place index number)
place_bytes index number is i =
    elim (cases_lt i (length index)) [
      | inl within ↦
          rw (get_or-append index (number / 256 ∷ number % 256 ∷ []) 0 i within)
          (is.octets i 0 within)
      | inr past ↦
          rw (get_or-append_right index (number / 256 ∷ number % 256 ∷ []) i 0 past)
          (last_two (number / 256) (number % 256) _ (let small = is.small in omega arith) (omega arith))
    ]

pub length-digits : (index : List ℕ) (number : ℕ) → IsKeyInRange index number → length (digits index number) ≡ 36
unfolding digits
length-digits index number is =
    omega (arith, length-encode_with lower_digits (place index number), length-place index number is)

-- the place, taken apart
index_in : (index : List ℕ) (number : ℕ) → IsKeyInRange index number → take 16 (place index number) ≡ index
index_in index number is = take_at index (number / 256 ∷ number % 256 ∷ []) 16 is.long

high_in : (index : List ℕ) (number : ℕ) → IsKeyInRange index number → get_or (place index number) 16 0 ≡ number / 256
high_in index number is =
    get_or-append_right index (number / 256 ∷ number % 256 ∷ []) 16 0 (omega (arith, is.long))
    ∙ (let zeroth : 16 - length index ≡ 0 = omega (arith, is.long) in rw zeroth refl)

low_in : (index : List ℕ) (number : ℕ) → IsKeyInRange index number → get_or (place index number) 17 0 ≡ number % 256
low_in index number is =
    get_or-append_right index (number / 256 ∷ number % 256 ∷ []) 17 0 (omega (arith, is.long))
    ∙ (let first : 17 - length index ≡ 1 = omega (arith, is.long) in rw first refl)

number_in : (index : List ℕ) (number : ℕ) → IsKeyInRange index number
    → get_or (place index number) 16 0 * 256 + get_or (place index number) 17 0 ≡ number
number_in index number is =
    omega (arith, high_in index number is, low_in index number is)

-- one place has these digits
one_place : (index other : List ℕ) (number another : ℕ) → IsKeyInRange index number → IsKeyInRange other another
    → place index number ≡ place other another → (index ≡ other) × (number ≡ another)
one_place index other number another here there e = (
  sym (index_in index number here) ∙ ap (take 16) e ∙ index_in other another there,
  sym (number_in index number here)
      ∙ ap (λ p. get_or p 16 0 * 256 + get_or p 17 0) e ∙ number_in other another there,
)

same_digits : (index other : List ℕ) (number another : ℕ) → IsKeyInRange index number → IsKeyInRange other another
    → digits index number ≡ digits other another → place index number ≡ place other another
unfolding digits
same_digits index other number another here there e =
    decode_of-same (digits other another) (place index number) (place other another)
    (ap decode_of (sym e) ∙ decode_of-encode_lower (place index number) (place_bytes index number here))
    (decode_of-encode_lower (place other another) (place_bytes other another there))

pub one_key : (grid ours index other : List ℕ) (number another : ℕ) → IsKeyInRange index number → IsKeyInRange other another
    → key grid index number ≡ key ours other another
    → (grid ≡ ours) × (index ≡ other) × (number ≡ another)
one_key grid ours index other number another here there e =
    let long : length grid ≡ length ours = omega (
      arith,
      ap length e,
      length-append grid (digits index number),
      length-append ours (digits other another),
      length-digits index number here,
      length-digits other another there,
    ) in
    let front = sym (take_at grid (digits index number) (length ours) long) ∙ ap (take (length ours)) e
    ∙ take_at ours (digits other another) (length ours) refl in
    let back = sym (drop_at grid (digits index number) (length ours) long) ∙ ap (drop (length ours)) e
    ∙ drop_at ours (digits other another) (length ours) refl in
    let same = one_place index other number another here there
    (same_digits index other number another here there back) in
    (front, same.0, same.1)
