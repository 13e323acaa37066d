-- The folders of stores.
use Rattle.std.specs.Prelude.{◌≡◌, ℕ, List, Option, Some, None, Any}
use Rattle.server_options.specs.declared.store_names.StoreWanted.{StoreWanted}
use Rattle.server_options.specs.declared.store_names.StoreWanted.TheVariants.{Memory, Folder, Disk, Shared, Redis, Missing}

-- the path of the folder in which a store keeps its shares, if it keeps them in one that isn't missing
abbrev pub folder_of : StoreWanted → Option (List ℕ)
folder_of (Memory room) = None
folder_of (Folder path room) = Some path.now
folder_of (Disk path room) = Some path.now
folder_of (Shared path) = Some path.now
folder_of (Redis place room) = None
folder_of (Missing path) = None

-- a path is that of a store's folder
abbrev pub IsStoreFolder : List StoreWanted → List ℕ → Type 0
IsStoreFolder stores path = Any (λ store. folder_of store ≡ Some path) stores
