-- Members of children JSON that are read a piece of their text at a time; for private clauses.
use Rattle.std.specs.Prelude.{◌≡◌, ⊤, ℕ, ◌+◌, ◌-◌, ◌<◌, ◌≤◌, nat_lt, List, [], ◌∷◌, ◌++◌, length, take, drop, Bool, true, false, Option, None, IfSome}
use Rattle.std.specs.Str.{IsUtf8}
use Rattle.json.specs.Token.{Token}
use Rattle.json.specs.Lex.{Mode, between, tokens}
use Rattle.json_members.specs.MemberCuts.{IsMemberCutFrom, IsMemberCut}
use Rattle.json_seams.specs.Modes.{mode_after, is_outside}
use Rattle.json_spelling.specs.CommaSearch.{IsSearched}
use Rattle.children_reader.specs.Collected.{object_behind, IsPartUpTo}
use Rattle.json_spelling.specs.Spelled.{data_of}
use Rattle.json_spelling.specs.TokenPieces.{tokens_behind}
use Rattle.children_reader.specs.declared.cutting.Behind.{Behind}
use Rattle.children_reader.specs.declared.cutting.Looked.{Looked}
use Rattle.children_reader.specs.declared.cutting.NextPiece.{NextPiece}
use Rattle.children_reader.specs.declared.cutting.Piece.{Piece}
use Rattle.children_reader.specs.declared.part_reader.PartRead.{PartRead}
use Rattle.children_reader.specs.declared.part_reader.PartReader.{PartReader}

-- ---- how far the text was looked through

-- a scanner that stands there finds the cuts of a text behind its first bytes
pub record FindsBehind (text : List ℕ) (mode : Mode) (depth : ℕ) : Type 0 where
  pub bounded : depth ≤ length text
  pub cuts : (bytes : List ℕ) (at : ℕ) → IsMemberCutFrom mode depth bytes at → IsMemberCut (text ++ bytes) (length text + at)

-- what stands at a place up to another, behind a brace
abbrev pub read_to : ℕ → ℕ → List ℕ → List ℕ
read_to at end json = 123 ∷ take (end - at) (drop at json)

-- the text has what stands there, and the scanner finds the cuts behind it
pub record IsReadTo (json : List ℕ) (at : ℕ) (end : ℕ) (text : List ℕ) (mode : Mode) (depth : ℕ) : Type 0 where
  pub ahead : at ≤ end
  pub within : end ≤ length json
  pub same : text ≡ read_to at end json
  pub finds : FindsBehind text mode depth

-- up to its end there are pieces, and behind that the next comma is sought
pub record IsLooked (json : List ℕ) (looked : Looked) : Type 0 where
  pub begun : looked.at ≤ looked.end
  pub searched : IsSearched json looked.end looked.search
  pub read : IsReadTo json looked.at looked.search.reached (read_to looked.at looked.search.reached json) looked.scanner.mode looked.scanner.depth

-- ---- the next piece

-- it ends at a comma outside strings
pub record IsToComma (json : List ℕ) (looked : Looked) (text : List ℕ) (next : Looked) : Type 0 where
  pub same : next.at ≡ looked.at
  pub ahead : looked.end < next.end
  pub further : looked.search.reached < next.search.reached
  pub bytes : take (next.end - looked.end) (drop looked.end json) ≡ text ++ 44 ∷ []
  pub outside : is_outside (mode_after between text) ≡ true
  pub looked_on : IsLooked json next

-- or with it a part ends
abbrev pub IsPieceTo : List ℕ → Looked → List ℕ → Behind → Type 0
IsPieceTo json looked text (Behind.Comma next) = IsToComma json looked text next
IsPieceTo json looked text (Behind.End next) = IsPartUpTo json looked.at (read_to looked.at looked.end json ++ text) next × IfSome next (λ n. looked.search.reached < n)

abbrev pub IsPieceBehind : List ℕ → Looked → Piece → Type 0
IsPieceBehind json looked piece = IsPieceTo json looked piece.text.items piece.behind

-- or more was looked through for its end
abbrev pub IsPieceSought : List ℕ → Looked → NextPiece → Type 0
IsPieceSought json looked (NextPiece.Sought next) = IsLooked json next × (next.at ≡ looked.at) × (next.end ≡ looked.end) × (looked.search.reached < next.search.reached)
IsPieceSought json looked (NextPiece.Found piece) = IsPieceBehind json looked piece

abbrev pub is_inner_comma : Behind → Bool
is_inner_comma (Behind.Comma next) = true
is_inner_comma (Behind.End next) = false

-- ---- how far members are read, by what takes their tokens, where a relation says which ones it took

-- What stands at a place up to another was read, as the beginning of an object: nothing, or what ends with a value and a
-- comma.
pub record IsReadSoFar {T : Type 0} (took : List Token → T → Type 0) (json : List ℕ) (at : ℕ) (reader : PartReader T) : Type 0 where
  pub read : List Token
  pub begun : reader.looked.at ≡ at
  pub looked : IsLooked json reader.looked
  pub before : IsUtf8 (take at json)
  pub utf8 : IsUtf8 (read_to at reader.looked.end json)
  pub taken : took read reader.taker
  pub joined : (rest : List ℕ) → tokens (read_to at reader.looked.end json ++ rest) ≡ read ++ tokens_behind (nat_lt at reader.looked.end) (tokens rest)

-- the tokens of a part were taken
pub record IsPartTaken {T : Type 0} (took : List Token → T → Type 0) (json : List ℕ) (at : ℕ) (taker : T) (next : Option ℕ) : Type 0 where
  pub text : List ℕ
  pub part : IsPartUpTo json at text next
  pub utf8 : IsUtf8 text
  pub taken : took (tokens text) taker

-- what stands there makes no object
abbrev pub HasNoObjectBehind : List ℕ → ℕ → Type 0
HasNoObjectBehind json at = IsUtf8 json → data_of (tokens (object_behind at json)) ≡ None

-- the reading goes on, or the tokens of a part were taken, or no JSON has them
abbrev pub IsPartReadOn : {T : Type 0} → (List Token → T → Type 0) → List ℕ → ℕ → ℕ → PartRead T → Type 0
IsPartReadOn took json at reached (PartRead.More next) = IsReadSoFar took json at next × (reached < next.looked.search.reached)
IsPartReadOn took json at reached (PartRead.All taker next) = IsPartTaken took json at taker next
IsPartReadOn took json at reached (PartRead.NotJson taker) = HasNoObjectBehind json at
IsPartReadOn took json at reached PartRead.NotRising = ⊤
