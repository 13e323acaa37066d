-- Caps that a put prints.
use Rattle.std.specs.Prelude.{◌⊎◌, ℕ, List, ◌∷◌, [], ◌++◌}
use Rattle.caps.specs.CapTexts.{cap_text}
use Rattle.caps.specs.declared.cap.Cap.{Cap}
use Rattle.client_tree.specs.Stored.{IsAnyDirectory, IsStoredWhole}

-- the cap is of bytes, as one file or as one in parts
pub record IsAnyFile (cap : Cap) : Type 0 where
  pub bytes : List ℕ
  pub stored : IsStoredWhole cap bytes

-- the cap is of bytes or of a directory, which are there
abbrev pub IsPutCap : Cap → Type 0
IsPutCap cap = IsAnyFile cap ⊎ IsAnyDirectory cap

-- a cap on a line of its own
abbrev pub cap_line : Cap → List ℕ
cap_line cap = cap_text cap ++ 10 ∷ []
