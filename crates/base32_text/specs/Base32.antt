-- Base32 without padding (RFC 4648, section 6).
use Rattle.std.specs.Prelude.{◌≡◌, ℕ, ◌+◌, ◌*◌, ◌/◌, ◌<◌, List, ◌++◌, length, map, replicate, All}
use Rattle.std.specs.List.{AllPass}
use Rattle.base32_text.specs.Bits.{joined, groups}
use Rattle.base32_text.specs.Alphabet.{is_letter, value_of, letter_of}

-- the bits that a text's letters stand for, five for each
abbrev pub letter_bits : List ℕ → List ℕ
letter_bits text = joined 5 (map value_of text)

-- a text spells bytes where its letters are the 5-bit groups of the bytes' bits, followed by the fewest zero bits
-- that fill the last group
pub record Spells (text bytes : List ℕ) : Type 0 where
  pub letters : AllPass is_letter text
  pub octets : All (λ byte. byte < 256) bytes
  pub zeros : ℕ
  pub fewest : zeros < 5
  pub bits : letter_bits text ≡ joined 8 bytes ++ replicate zeros 0

-- the text that spells bytes: of their bits and four zero bits, each whole group of five
unfoldable pub spelling : List ℕ → List ℕ
spelling bytes = map letter_of (groups 5 ((8 * length bytes + 4) / 5) (joined 8 bytes ++ replicate 4 0))

-- a text, and letters after it; for private clauses
pub record HasMore (text more : List ℕ) : Type 0 where
  pub letters : List ℕ
  pub follows : more ≡ text ++ letters
  pub ascii : All (λ letter. letter < 128) letters
