-- What a text is read as: the cap whose text it is, or why it is no cap's.
use Rattle.std.specs.Prelude.{ℕ, ◌^◌, ◌-◌, ◌==◌, if◌then◌else◌, List, [], ◌∷◌, length, drop, Option, Some, None, Result, Ok, Err}
use Rattle.std.specs.List.{find}
use Rattle.octets.specs.Decimal.{number_to}
use Rattle.octets.specs.Sharing.{is_sharing}
use Rattle.base32_text.specs.Reading.{reading}
use Rattle.base32_text.specs.declared.fault.B32Fault.{B32Fault}
use Rattle.caps.specs.Beginnings.{begins_with, beginning, kinds, is_mutable}
use Rattle.caps.specs.Refusals.{parts}
use Rattle.caps.specs.declared.cap.Cap.{Cap}
use Rattle.caps.specs.declared.cap.Cap.TheVariants.{Chk, Lit, DirChk, DirLit, ChkVerify, DirChkVerify}
use Rattle.caps.specs.declared.kind.Kind.{Kind}
use Rattle.caps.specs.declared.kind.Kind.TheVariants.{ReadFile, LiteralFile, ReadDirectory, LiteralDirectory, VerifyFile, VerifyDirectory}
use Rattle.caps.specs.declared.fault.CapFault.{CapFault}
use Rattle.caps.specs.declared.fault.CapFault.TheVariants.{UnknownKind, Mutable, BadField, BadNumber}

-- the number below 2 ^ 64 whose decimal text this is
unfoldable pub numeral : List ℕ → Option ℕ
numeral text = number_to (2 ^ 64 - 1) text

abbrev pub if_of_length : ℕ → Result (List ℕ) B32Fault → Option (List ℕ)
if_of_length count (Ok bytes) = if length bytes == count then Some bytes else None
if_of_length count (Err fault) = None

-- the bytes that a text spells, where they are so many
unfoldable pub bytes_spelled : ℕ → List ℕ → Option (List ℕ)
bytes_spelled count text = if_of_length count (reading text)

abbrev pub numbered : (ℕ → ℕ → ℕ → Cap) → Option ℕ → Option ℕ → Option ℕ → Result Cap CapFault
numbered make (Some k) (Some n) (Some size) = if is_sharing k n then Ok (make k n size) else Err BadNumber
numbered make k n size = Err BadNumber

abbrev pub named : (List ℕ → List ℕ → ℕ → ℕ → ℕ → Cap) → Option (List ℕ) → Option (List ℕ) → Option ℕ → Option ℕ → Option ℕ
    → Result Cap CapFault
named make (Some name) (Some ueb) k n size = numbered (make name ueb) k n size
named make name ueb k n size = Err BadField

-- the cap that is made of five fields
abbrev pub stored : (List ℕ → List ℕ → ℕ → ℕ → ℕ → Cap) → List (List ℕ) → Result Cap CapFault
stored make (name ∷ ueb ∷ k ∷ n ∷ size ∷ []) =
    named make (bytes_spelled 16 name) (bytes_spelled 32 ueb) (numeral k) (numeral n) (numeral size)
stored make others = Err BadField

-- the cap that holds its bytes
abbrev pub literal : (List ℕ → Cap) → Result (List ℕ) B32Fault → Result Cap CapFault
literal make (Ok bytes) = Ok (make bytes)
literal make (Err fault) = Err BadField

-- what follows the beginning of a kind
abbrev pub rest_reading : Kind → List ℕ → Result Cap CapFault
rest_reading ReadFile rest = stored (λ key ueb k n size. Chk (record { key = key; ueb = ueb; k = k; n = n; size = size })) (parts rest)
rest_reading LiteralFile rest = literal Lit (reading rest)
rest_reading ReadDirectory rest = stored (λ key ueb k n size. DirChk (record { key = key; ueb = ueb; k = k; n = n; size = size })) (parts rest)
rest_reading LiteralDirectory rest = literal DirLit (reading rest)
rest_reading VerifyFile rest = stored (λ si ueb k n size. ChkVerify (record { si = si; ueb = ueb; k = k; n = n; size = size })) (parts rest)
rest_reading VerifyDirectory rest = stored (λ si ueb k n size. DirChkVerify (record { si = si; ueb = ueb; k = k; n = n; size = size })) (parts rest)

abbrev pub reading_of_kind : Option Kind → List ℕ → Result Cap CapFault
reading_of_kind (Some kind) text = rest_reading kind (drop (length (beginning kind)) text)
reading_of_kind None text = if is_mutable text then Err Mutable else Err UnknownKind

-- the cap whose text this is, or why it is no cap's
unfoldable pub cap_reading : List ℕ → Result Cap CapFault
cap_reading text = reading_of_kind (find (λ kind. begins_with text (beginning kind)) kinds) text
