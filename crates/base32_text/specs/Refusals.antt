-- Why a text spells no bytes.
use Rattle.std.specs.Prelude.{◌≡◌, ℕ, ◌*◌, ◌/◌, ◌%◌, ◌<◌, Bool, true, false, ◌||◌, ◌==◌, List, length, drop, slice_index}
use Rattle.std.specs.List.{AllPass, list_any}
use Rattle.base32_text.specs.Alphabet.{is_letter}
use Rattle.base32_text.specs.Base32.{letter_bits}
use Rattle.base32_text.specs.declared.fault.B32Fault.{B32Fault}
use Rattle.base32_text.specs.declared.fault.B32Fault.TheVariants.{BadCharacter, BadLength, LooseBits, NoMemory}

-- no bytes have so many letters: five or more bits would be left after the last byte
abbrev pub is_bad_length : ℕ → Bool
is_bad_length letters = (letters % 8 == 1) || (letters % 8 == 3) || (letters % 8 == 6)

-- the bits after the last whole byte
abbrev pub loose_bits : List ℕ → List ℕ
loose_bits text = drop (8 * (5 * length text / 8)) (letter_bits text)

-- whether one of them is not zero
abbrev pub is_loose : List ℕ → Bool
is_loose text = list_any (λ bit. bit == 1) (loose_bits text)

-- the place of the first byte that is no letter
pub record IsFirstBad (text : List ℕ) (place : ℕ) : Type 0 where
  pub within : place < length text
  pub bad : is_letter (slice_index text place) ≡ false
  pub before : (k : ℕ) → k < place → is_letter (slice_index text k) ≡ true

-- what each refusal says of the text, where several could be given the first of them
abbrev pub Refuses : B32Fault → List ℕ → Type 0
Refuses (BadCharacter place) text = IsFirstBad text place
Refuses BadLength text = AllPass is_letter text × (is_bad_length (length text) ≡ true)
Refuses LooseBits text = AllPass is_letter text × (is_bad_length (length text) ≡ false) × (is_loose text ≡ true)
Refuses NoMemory text = Unit {0}
