-- Stores whose folders are missing.
use Rattle.std.specs.Prelude.{◌≡◌, ℕ, Bool, List, Option, Some, None, All, bytes_eq, map, if◌then◌else◌}
use Rattle.std.specs.List.{list_any}
use Rattle.server_options.specs.Folders.{IsStoreFolder}
use Rattle.server_options.specs.declared.store_names.StoreWanted.{StoreWanted}
use Rattle.server_options.specs.declared.store_names.StoreWanted.TheVariants.{Folder, Disk, Shared, Missing}

-- the path of the folder in which a store's shares are, where that is missing
abbrev pub missing_folder_of : StoreWanted → Option (List ℕ)
missing_folder_of (Missing path) = Some path.now
missing_folder_of _ = None

-- a store that isn't missing
abbrev pub IsPresent : StoreWanted → Type 0
IsPresent store = missing_folder_of store ≡ None

-- whether a path is one of these
abbrev pub has_path : List (List ℕ) → List ℕ → Bool
has_path paths path = list_any (λ one. bytes_eq one path) paths

-- a store as it was named, but a missing one where its folder has one of these paths
abbrev pub or_missing : List (List ℕ) → StoreWanted → StoreWanted
or_missing missing (Folder path room) = if has_path missing path.now then Missing path else Folder path room
or_missing missing (Disk path room) = if has_path missing path.now then Missing path else Disk path room
or_missing missing (Shared path) = if has_path missing path.now then Missing path else Shared path
or_missing missing named = named

-- These are the stores that were named, each in its place, but missing ones where their folders have one of these paths; and
-- each of these paths is that of a store's folder.
pub record AreServedWithout (missing : List (List ℕ)) (named stores : List StoreWanted) : Type 0 where
  pub folders : All (λ path. IsStoreFolder named path) missing
  pub left : stores ≡ map (or_missing missing) named
