-- What a text is read as: the bytes that it spells, or why it spells none.
use Rattle.std.specs.Prelude.{ℕ, ◌*◌, ◌/◌, not, if◌then◌else◌, List, length, Option, Some, None, Result, Ok, Err}
use Rattle.std.specs.List.{position_from}
use Rattle.base32_text.specs.Bits.{groups}
use Rattle.base32_text.specs.Alphabet.{is_letter}
use Rattle.base32_text.specs.Base32.{letter_bits}
use Rattle.base32_text.specs.Refusals.{is_bad_length, is_loose}
use Rattle.base32_text.specs.declared.fault.B32Fault.{B32Fault}
use Rattle.base32_text.specs.declared.fault.B32Fault.TheVariants.{BadCharacter, BadLength, LooseBits}

-- at the place of the first byte that is no letter
abbrev pub reading_at : Option ℕ → List ℕ → Result (List ℕ) B32Fault
reading_at (Some place) text = Err (BadCharacter place)
reading_at None text =
    if is_bad_length (length text) then Err BadLength
    else (if is_loose text then Err LooseBits else Ok (groups 8 (5 * length text / 8) (letter_bits text)))

unfoldable pub reading : List ℕ → Result (List ℕ) B32Fault
reading text = reading_at (position_from (λ byte. not (is_letter byte)) 0 text) text
