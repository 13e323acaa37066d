-- Worlds that are alike as far as some caps can tell.
use Rattle.std.specs.Prelude.{◌≡◌, ℕ, List, true}
use Rattle.caps.specs.declared.cap.Cap.{Cap}
use Rattle.caps.specs.Fields.{ReadValue}
use Rattle.caps.specs.StorageIndex.{index_of}
use Rattle.chk_file.specs.Marks.{marks_of}
use Rattle.chk_file.specs.World.{World}
use Rattle.gate_core.specs.Reach.{is_reached}

-- the same marks and files under the storage indexes of these caps
pub record Agrees (reached : List Cap) (w v : World) : Type 0 where
  pub marks : (si : List ℕ) → is_reached reached si ≡ true → marks_of w.marks si ≡ marks_of v.marks si
  pub files : (f : ReadValue) → is_reached reached (index_of f.key) ≡ true → w.files f ≡ v.files f
