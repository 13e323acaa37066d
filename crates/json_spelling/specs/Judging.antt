-- Long metadata that are judged some of their text at a time; for private clauses.
use Rattle.std.specs.Prelude.{◌≡◌, ⊤, ℕ, ◌<◌, ◌≤◌, List, length, true, Option, Some, None, is_some}
use Rattle.json_spelling.specs.Judge.{HasJudged}
use Rattle.json_spelling.specs.Metadata.{spelling_of}
use Rattle.json_spelling.specs.PieceReaders.{IsPieceReader}
use Rattle.json_spelling.specs.declared.judging.Judging.{Judging}
use Rattle.json_spelling.specs.declared.judging.Judged.{Judged}

-- a judge took the tokens of what was read
abbrev pub IsJudging : List ℕ → Judging → Type 0
IsJudging text judging = IsPieceReader HasJudged text judging.reader

-- the judging goes on so, or what it says is whether the text is metadata
abbrev pub IsJudgedOn : List ℕ → Judged → Type 0
IsJudgedOn text (Judged.More next) = IsJudging text next
IsJudgedOn text (Judged.Done is) = is ≡ is_some (spelling_of text)

-- more bytes were looked through than so many, and no fewer where the text is metadata
abbrev pub IsJudgedBehind : List ℕ → ℕ → Judged → Type 0
IsJudgedBehind text reached (Judged.More next) = reached < next.reader.search.reached
IsJudgedBehind text reached (Judged.Done is) = is ≡ true → reached ≤ length text

-- the same where nothing may have been read yet
abbrev pub IsJudgedSoFar : List ℕ → Option Judging → Type 0
IsJudgedSoFar text None = ⊤
IsJudgedSoFar text (Some judging) = IsJudging text judging

-- how many bytes were looked through
abbrev pub judged_bytes : Option Judging → ℕ
judged_bytes None = 0
judged_bytes (Some judging) = judging.reader.search.reached
