-- One file that was written where it was asked for, at once or piece after piece.
use Rattle.std.specs.Prelude.{◌≡◌, ◌⊎◌, ℕ, List, []}
use Rattle.caps.specs.declared.cap.Cap.{Cap}
use Rattle.client_core.specs.Way.{LeadsTo}
use Rattle.client_tree.specs.Runs.{File}
use Rattle.client_tree.specs.Joined.{IsJoinedFile, IsBegunFile}
use Rattle.client_tree.specs.Trees.{IsFileOf}

-- the names lead from the cap to that of a file that was written, at once or piece after piece
pub record IsPlacedFile (cap : Cap) (names path : List (List ℕ)) (files : List File) : Type 0 where
  pub end : Cap
  pub led : LeadsTo cap names end
  pub whole : IsFileOf end path files ⊎ IsJoinedFile end path files

-- nothing was written, or the names lead to a file in parts of which the first were
pub record IsLedToUnfinished (cap : Cap) (names path : List (List ℕ)) (files : List File) : Type 0 where
  pub end : Cap
  pub led : LeadsTo cap names end
  pub begun : IsBegunFile end path files

abbrev pub IsUnfinished : Cap → List (List ℕ) → List (List ℕ) → List File → Type 0
IsUnfinished cap names path files = (files ≡ []) ⊎ IsLedToUnfinished cap names path files
