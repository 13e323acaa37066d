-- The commas between the members of the outermost object.
use Rattle.std.specs.Prelude.{◌≡◌, ◌<◌, ℕ, List, [], ◌∷◌, ◌++◌, ◌+◌, take, drop, Option, Some, None, Bool, false, cond, ◌==◌}
use Rattle.json.specs.Ascii as ascii
use Rattle.json.specs.Token.{Token}
use Rattle.json.specs.Lex.{Mode, between}
use Rattle.json.specs.Word.{is_space}
use Rattle.json_seams.specs.Cuts.{IsCutFrom}
use Rattle.json_members.specs.Brackets.{bracket_depth}

-- a comma stands at that place, in no string and in one bracket, where the text is read from that mode and depth on
pub record IsMemberCutFrom (mode : Mode) (depth : ℕ) (text : List ℕ) (at : ℕ) : Type 0 where
  pub comma : IsCutFrom mode text at
  pub outermost : bracket_depth mode depth (take at text) ≡ 1

-- the same of a text from its beginning
abbrev pub IsMemberCut : List ℕ → ℕ → Type 0
IsMemberCut text at = IsMemberCutFrom between 0 text at

-- it is the last such place, or there is none
abbrev pub IsLastMemberCut : Mode → ℕ → List ℕ → Option ℕ → Type 0
IsLastMemberCut mode depth text None = (at : ℕ) → IsMemberCutFrom mode depth text at → ⊥
IsLastMemberCut mode depth text (Some at) =
    IsMemberCutFrom mode depth text at × ((later : ℕ) → at < later → IsMemberCutFrom mode depth text later → ⊥)

-- the first token, where there is one
abbrev pub first_token : List Token → Option Token
first_token [] = None
first_token (t ∷ ts) = Some t

-- the parts of a text that is cut at that place, each an object of its own
abbrev pub front_object : List ℕ → ℕ → List ℕ
front_object text at = take at text ++ ascii.close_brace ∷ []

abbrev pub back_object : List ℕ → ℕ → List ℕ
back_object text at = ascii.open_brace ∷ drop (at + 1) text

-- the first byte that is no white space is a brace that opens
unfoldable pub opens_object : List ℕ → Bool
opens_object [] = false
opens_object (byte ∷ bytes) = cond (is_space byte) (opens_object bytes) (byte == ascii.open_brace)
