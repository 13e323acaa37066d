-- Which stores keep a handle open.
use Rattle.std.specs.Prelude.{Bool, true, false}
use Rattle.server_options.specs.declared.store_names.StoreWanted.{StoreWanted}
use Rattle.server_options.specs.declared.store_names.StoreWanted.TheVariants.{Memory, Folder, Disk, Shared, Redis, Missing}

-- a store keeps the lock of its folder, or its connection to a server
abbrev pub keeps_handle : StoreWanted → Bool
keeps_handle (Memory room) = false
keeps_handle (Folder path room) = true
keeps_handle (Disk path room) = true
keeps_handle (Shared path) = true
keeps_handle (Redis place room) = true
keeps_handle (Missing path) = false
