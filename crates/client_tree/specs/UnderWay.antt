-- Files of a folder while they are stored, several at once; for private clauses.
use Rattle.std.specs.Prelude.{◌≡◌, ◌⊎◌, ℕ, ◌<◌, List, [], ◌∷◌, ◌++◌, length, Contains}
use Rattle.client_tree.specs.Runs.{File}
use Rattle.client_tree.specs.Parts.{part_bytes}
use Rattle.client_tree.specs.Stored.{IsStoredBelow}
use Rattle.client_tree.specs.declared.children.Child.{Child}
use Rattle.client_tree.specs.declared.window.Waiting.{Waiting}

-- a file that is one of those on their way, under its name below that path
pub record IsUnderWay (waiting : List Waiting) (path : List (List ℕ)) (files : List File) : Type 0 where
  pub file : Waiting
  pub among : Contains waiting file
  pub short : length file.bytes < part_bytes
  pub files_are : files ≡ record { path = path ++ file.name ∷ []; bytes = file.bytes } ∷ []

-- it is stored below one of these children, or on its way
abbrev pub IsInHand : List Child → List Waiting → List (List ℕ) → List File → Type 0
IsInHand children waiting path files = IsStoredBelow children path files ⊎ IsUnderWay waiting path files

-- what was stored or on its way still is
abbrev pub StaysInHand : List Child → List Waiting → List Child → List Waiting → Type 0
StaysInHand children waiting more left = (path : List (List ℕ)) (files : List File) → IsInHand children waiting path files → IsInHand more left path files
