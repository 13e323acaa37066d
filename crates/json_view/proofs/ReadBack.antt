-- Texts of values are read back.
use Rattle.std.proofs.Common.{◌≡◌, ℕ, ◌≤◌, false, List, Some, ap, ◌∙◌}
use Rattle.serde_json.specs.Data.{Data, depth}
use Rattle.serde_json.specs.Read.{read}
use Rattle.serde_json.specs.Written.{has_float, compact_text}
use Rattle.json_spelling.specs.Sound.{IsSound}

-- what `dir_codec` says of values
abbrev pub ValuesAreReadBack : Type 0
ValuesAreReadBack = (d : Data) → IsSound d → has_float d ≡ false → depth d ≤ 127 → read (compact_text d) ≡ Some d

pub read_as : ValuesAreReadBack → (text : List ℕ) (d : Data) → text ≡ compact_text d → IsSound d → has_float d ≡ false → depth d ≤ 127 → read text ≡ Some d
read_as back text d written sound whole shallow = ap read written ∙ back d sound whole shallow
