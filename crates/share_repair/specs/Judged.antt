-- What stands under a storage index, judged; for private clauses.
use Rattle.std.specs.Prelude.{◌≡◌, ℕ, ◌<◌, ◌^◌, List, MatchOption}
use Rattle.std.specs.Rc.{rc_slice_items}
use Rattle.share_repair.specs.declared.judging.Judged.{Judged}
use Rattle.share_repair.specs.Files.{FileLabel, IsShareOf}

-- it is a good share of the file that it is told to be one of, and where none is told of no file; for private clauses
abbrev pub IsJudged : Judged → Type 0
IsJudged judged =
    MatchOption judged.label
    ((label : FileLabel) → label.params.size < 2 ^ 64 → IsShareOf label judged.number (rc_slice_items judged.bytes) → ⊥)
    (λ label. IsShareOf label judged.number (rc_slice_items judged.bytes))

-- its server, its number and its bytes; for private clauses
abbrev pub found_of : Judged → ℕ × ℕ × List ℕ
found_of judged = (judged.server, judged.number, rc_slice_items judged.bytes)

-- it has this number and these bytes; for private clauses
abbrev pub IsTheGiven : ℕ → List ℕ → Judged → Type 0
IsTheGiven number bytes judged = (judged.number ≡ number) × (rc_slice_items judged.bytes ≡ bytes)
