-- What the steps of the parser say.
use Rattle.std.specs.Prelude.{◌≡◌, ℕ, List, length}
use Rattle.base32_text.specs.Base32.{Spells}
use Rattle.caps.specs.Refusals.{LacksBytes, LacksFields, LacksNumbers, HasBadField, HasBadNumber}
use Rattle.base32_text.specs.declared.fault.B32Fault.{B32Fault}
use Rattle.base32_text.specs.declared.fault.B32Fault.TheVariants.{BadCharacter, BadLength, LooseBits}
use Rattle.base32_text.specs.declared.fault.B32Fault.TheVariants as b32
use Rattle.caps.specs.declared.kind.Kind.{Kind}
use Rattle.caps.specs.declared.fault.CapFault.{CapFault}
use Rattle.caps.specs.declared.fault.CapFault.TheVariants.{UnknownKind, Mutable, BadField, BadNumber, NoMemory}

-- the refusal of a cap in which a field is no base32
abbrev pub field_fault : B32Fault → CapFault
field_fault (BadCharacter place) = BadField
field_fault BadLength = BadField
field_fault LooseBits = BadField
field_fault b32.NoMemory = NoMemory

-- a field that was to be so many bytes; for private clauses
abbrev pub RefusesCount : CapFault → ℕ → List ℕ → Type 0
RefusesCount UnknownKind count text = ⊥
RefusesCount Mutable count text = ⊥
RefusesCount BadField count text = (bytes : List ℕ) → Spells text bytes → ¬ (length bytes ≡ count)
RefusesCount BadNumber count text = ⊥
RefusesCount NoMemory count text = Unit {0}

-- a field that was to be bytes; for private clauses
abbrev pub RefusesBytes : CapFault → List ℕ → Type 0
RefusesBytes UnknownKind text = ⊥
RefusesBytes Mutable text = ⊥
RefusesBytes BadField text = LacksBytes text
RefusesBytes BadNumber text = ⊥
RefusesBytes NoMemory text = Unit {0}

-- what was to be five fields; for private clauses
abbrev pub RefusesFields : CapFault → List ℕ → Type 0
RefusesFields UnknownKind text = ⊥
RefusesFields Mutable text = ⊥
RefusesFields BadField text = LacksFields text
RefusesFields BadNumber text = LacksNumbers text
RefusesFields NoMemory text = Unit {0}

-- what follows the beginning of a kind; for private clauses
abbrev pub RefusesRest : CapFault → Kind → List ℕ → Type 0
RefusesRest UnknownKind kind rest = ⊥
RefusesRest Mutable kind rest = ⊥
RefusesRest BadField kind rest = HasBadField kind rest
RefusesRest BadNumber kind rest = HasBadNumber kind rest
RefusesRest NoMemory kind rest = Unit {0}
