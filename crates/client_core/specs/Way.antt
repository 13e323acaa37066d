-- Directories, and walks over a gateway of which nothing is known.
use Rattle.std.specs.Prelude.{◌≡◌, ℕ, List, [], ◌∷◌, Some, Ok}
use Rattle.caps.specs.declared.cap.Cap.{Cap}
use Rattle.dir_codec.specs.declared.entry.Entry.{Entry}
use Rattle.dir_codec.specs.Reading.{directory_reading}
use Rattle.path_walk.specs.Walk.{cap_named}
use Rattle.cap_binding.specs.Binds.{AreTextOf}

-- the entries of a text that the cap is of
pub record IsDirectoryOf (cap : Cap) (entries : List Entry) : Type 0 where
  pub text : List ℕ
  pub of_cap : AreTextOf cap text
  pub read : directory_reading text ≡ Ok entries

-- the child has that name in a directory that the cap is of
pub record IsChildOf (cap : Cap) (name : List ℕ) (child : Cap) : Type 0 where
  pub entries : List Entry
  pub of_cap : IsDirectoryOf cap entries
  pub found : cap_named name entries ≡ Some child

-- the names lead from the cap to the end, from child to child
abbrev pub LeadsTo : Cap → List (List ℕ) → Cap → Type 0
LeadsTo cap [] end = end ≡ cap
LeadsTo cap (name ∷ more) end = (child : Cap) × (IsChildOf cap name child × LeadsTo child more end)
