-- JSON that is read a piece of its text at a time, by what takes its tokens; for private clauses.
use Rattle.std.specs.Prelude.{◌≡◌, ⊤, ℕ, ◌<◌, ◌≤◌, nat_lt, List, ◌++◌, length, take, drop, None}
use Rattle.std.specs.Str.{IsUtf8}
use Rattle.json.specs.Token.{Token}
use Rattle.json.specs.Lex.{tokens}
use Rattle.json_spelling.specs.CommaSearch.{IsSearched}
use Rattle.json_spelling.specs.Metadata.{json_of}
use Rattle.json_spelling.specs.TokenPieces.{tokens_behind}
use Rattle.json_spelling.specs.declared.piece_reader.PieceReader.{PieceReader}
use Rattle.json_spelling.specs.declared.piece_reader.PiecesRead.{PiecesRead}

-- The first bytes of a text were read: none, or those up to a value and a comma. Behind them the next comma is sought.
pub record IsPieceReader {T : Type 0} (took : List Token → T → Type 0) (text : List ℕ) (reader : PieceReader T) : Type 0 where
  pub read : List Token
  pub searched : IsSearched text reader.at reader.search
  pub utf8 : IsUtf8 (take reader.at text)
  pub taken : took read reader.taker
  pub joined : tokens text ≡ read ++ tokens_behind (nat_lt 0 reader.at) (tokens (drop reader.at text))

-- the reading goes on so, or all tokens of the text were taken, or it is no JSON
abbrev pub AreTokensRead : {T : Type 0} → (List Token → T → Type 0) → List ℕ → PiecesRead T → Type 0
AreTokensRead took text (PiecesRead.More next) = IsPieceReader took text next
AreTokensRead took text (PiecesRead.All taker) = took (tokens text) taker × IsUtf8 text
AreTokensRead took text (PiecesRead.NotJson taker) = json_of text ≡ None
AreTokensRead took text PiecesRead.NotRising = ⊤

-- more bytes were looked through than so many, and no fewer where all were read
abbrev pub AreBytesBehind : {T : Type 0} → List ℕ → ℕ → PiecesRead T → Type 0
AreBytesBehind text reached (PiecesRead.More next) = reached < next.search.reached
AreBytesBehind text reached (PiecesRead.All taker) = reached ≤ length text
AreBytesBehind text reached _ = ⊤
