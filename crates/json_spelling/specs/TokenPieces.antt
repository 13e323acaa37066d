-- The tokens of a piece of a JSON text that is cut at commas outside strings; for private clauses.
use Rattle.std.specs.Prelude.{◌≡◌, ℕ, List, [], ◌++◌, Bool, true, false, None}
use Rattle.json.specs.Token.{Token}
use Rattle.json.specs.Lex.{tokens}
use Rattle.json_seams.specs.Seams.{behind_comma, seam}
use Rattle.json_spelling.specs.Spelled.{data_of}

-- the token is the last of a value
abbrev pub ends_value : Token → Bool
ends_value Token.begin_object = false
ends_value Token.end_object = true
ends_value Token.begin_array = false
ends_value Token.end_array = true
ends_value (Token.key s) = false
ends_value (Token.string s) = true
ends_value (Token.number s) = true
ends_value (Token.boolean b) = true
ends_value Token.null = true
ends_value Token.bad = false

-- what tokens are at the beginning of a text, or behind a value and a comma
abbrev pub tokens_behind : Bool → List Token → List Token
tokens_behind false ts = ts
tokens_behind true ts = behind_comma ts

-- the tokens of a piece that is the last, or behind which a comma and others stand
abbrev pub tokens_before : Bool → List Token → List Token → List Token
tokens_before false ts rest = ts
tokens_before true ts rest = seam ts rest

-- and what then comes
abbrev pub tokens_next : Bool → List Token → List Token
tokens_next false rest = []
tokens_next true rest = behind_comma rest

-- ---- a piece that is pushed into what takes tokens, where a relation says which ones it took

-- it took the tokens of a piece, which begins and ends as it has to
abbrev pub IsPiecePushed : {T : Type 0} → (List Token → T → Type 0) → Bool → Bool → List ℕ → T → T → Type 0
IsPiecePushed took behind before text old new = (read rest : List Token) → took read old
    → took (read ++ tokens text) new × (tokens_behind behind (tokens_before before (tokens text) rest) ≡ tokens text ++ tokens_next before rest)

-- no tokens with those of the piece are a value
abbrev pub IsPieceRefused : {T : Type 0} → (List Token → T → Type 0) → Bool → Bool → List ℕ → T → Type 0
IsPieceRefused took behind before text old = (read rest : List Token) → took read old → data_of (read ++ tokens_behind behind (tokens_before before (tokens text) rest)) ≡ None
