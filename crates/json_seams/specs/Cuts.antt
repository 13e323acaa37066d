-- The commas behind which a text may be cut.
use Rattle.std.specs.Prelude.{◌≡◌, ◌<◌, ℕ, List, length, take, slice_index, true, Option, Some, None}
use Rattle.json.specs.Ascii as ascii
use Rattle.json.specs.Lex.{Mode, between}
use Rattle.json_seams.specs.Modes.{mode_after, is_outside}

-- a comma stands at that place, in no string, where the text is read from that mode on
pub record IsCutFrom (mode : Mode) (text : List ℕ) (at : ℕ) : Type 0 where
  pub within : at < length text
  pub comma : slice_index text at ≡ ascii.comma
  pub outside : is_outside (mode_after mode (take at text)) ≡ true

-- the same of a text from its beginning
abbrev pub IsCutComma : List ℕ → ℕ → Type 0
IsCutComma text at = IsCutFrom between text at

-- it is the last such place, or there is none
abbrev pub IsLastCut : Mode → List ℕ → Option ℕ → Type 0
IsLastCut mode text None = (at : ℕ) → IsCutFrom mode text at → ⊥
IsLastCut mode text (Some at) = IsCutFrom mode text at × ((later : ℕ) → at < later → IsCutFrom mode text later → ⊥)
