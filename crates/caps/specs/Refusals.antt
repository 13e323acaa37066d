-- Why a text is no cap's.
use Rattle.std.specs.Prelude.{◌≡◌, ℕ, ◌<◌, ◌^◌, Bool, true, false, ◌==◌, List, [], ◌∷◌, ◌++◌, length, decimal, MatchBool}
use Rattle.std.specs.List.{slice_split}
use Rattle.base32_text.specs.Base32.{Spells}
use Rattle.octets.specs.Sharing.{IsSharing}
use Rattle.caps.specs.Beginnings.{begins_with, beginning, is_mutable}
use Rattle.caps.specs.declared.kind.Kind.{Kind}
use Rattle.caps.specs.declared.kind.Kind.TheVariants.{ReadFile, LiteralFile, ReadDirectory, LiteralDirectory, VerifyFile, VerifyDirectory}
use Rattle.caps.specs.declared.fault.CapFault.{CapFault}
use Rattle.caps.specs.declared.fault.CapFault.TheVariants.{UnknownKind, Mutable, BadField, BadNumber, NoMemory}

-- the fields of a text, parted by `:`
abbrev pub parts : List ℕ → List (List ℕ)
parts text = slice_split (λ byte. byte == 58) text

-- five fields, of which the first two spell 16 and 32 bytes; the three others are these texts
pub record HasFields (text k_text n_text size_text : List ℕ) : Type 0 where
  pub name_text : List ℕ
  pub ueb_text : List ℕ
  pub parted : parts text ≡ name_text ∷ ueb_text ∷ k_text ∷ n_text ∷ size_text ∷ []
  pub name : List ℕ
  pub name_spelled : Spells name_text name
  pub name_long : length name ≡ 16
  pub ueb : List ℕ
  pub ueb_spelled : Spells ueb_text ueb
  pub ueb_long : length ueb ≡ 32

-- the decimal texts of a cap's three numbers
pub record AreNumberTexts (k_text n_text size_text : List ℕ) : Type 0 where
  pub k : ℕ
  pub n : ℕ
  pub size : ℕ
  pub k_decimal : k_text ≡ decimal k
  pub n_decimal : n_text ≡ decimal n
  pub size_decimal : size_text ≡ decimal size
  pub sharing : IsSharing k n
  pub size_fits : size < 2 ^ 64

-- a kind whose caps hold their bytes
abbrev pub is_literal : Kind → Bool
is_literal ReadFile = false
is_literal LiteralFile = true
is_literal ReadDirectory = false
is_literal LiteralDirectory = true
is_literal VerifyFile = false
is_literal VerifyDirectory = false

-- it spells no bytes
abbrev pub LacksBytes : List ℕ → Type 0
LacksBytes rest = (bytes : List ℕ) → ¬ (Spells rest bytes)

-- it has a wrong number of fields, a field that is no base32 or one of a wrong number of bytes
abbrev pub LacksFields : List ℕ → Type 0
LacksFields rest = (k n size : List ℕ) → ¬ (HasFields rest k n size)

-- its fields are good, but the numbers are none, or out of their range
pub record LacksNumbers (rest : List ℕ) : Type 0 where
  pub k_text : List ℕ
  pub n_text : List ℕ
  pub size_text : List ℕ
  pub fields : HasFields rest k_text n_text size_text
  pub bad : ¬ (AreNumberTexts k_text n_text size_text)

-- what is said against that which follows the beginning of a kind
abbrev pub HasBadField : Kind → List ℕ → Type 0
HasBadField kind rest = MatchBool (is_literal kind) (LacksBytes rest) (LacksFields rest)

abbrev pub HasBadNumber : Kind → List ℕ → Type 0
HasBadNumber kind rest = (is_literal kind ≡ false) × LacksNumbers rest

-- what each refusal says of the text
abbrev pub RefusesCap : CapFault → List ℕ → Type 0
RefusesCap UnknownKind text = ((kind : Kind) → begins_with text (beginning kind) ≡ false) × (is_mutable text ≡ false)
RefusesCap Mutable text = is_mutable text ≡ true
RefusesCap BadField text = (kind : Kind) × (rest : List ℕ) × (text ≡ beginning kind ++ rest) × HasBadField kind rest
RefusesCap BadNumber text = (kind : Kind) × (rest : List ℕ) × (text ≡ beginning kind ++ rest) × HasBadNumber kind rest
RefusesCap NoMemory text = Unit {0}
