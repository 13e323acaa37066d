-- Folders in which a store would be begun by mistake.
use Rattle.std.specs.Prelude.{◌≡◌, ◌≢◌, false, List, Any}
use Rattle.server_stores.specs.declared.folders.Found.TheVariants.{New}
use Rattle.server_stores.specs.declared.folder_look.FolderLook.{FolderLook}

-- a folder is new, and no new store is meant there
abbrev pub IsUnmeant : FolderLook → Type 0
IsUnmeant one = (one.found ≡ New) × (one.is_meant ≡ false)

-- and another of the grid's isn't new: it has settings, or is missing
abbrev pub IsMistake : List FolderLook → FolderLook → Type 0
IsMistake seen one = IsUnmeant one × Any (λ other. other.found ≢ New) seen
