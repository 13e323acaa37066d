use Rattle.std.proofs.Common.{◌≢◌, Some}
use Rattle.std.specs.List.{AllWithin}
use Rattle.server_options.specs.Folders.{folder_of}
use Rattle.server_options.proofs.options.is_folder_of.Given as goal

-- no store that was looked at has this folder
abbrev pub invariant-loop-store : goal.invariant-loop-store
invariant-loop-store l = AllWithin (λ store. folder_of store ≢ Some l.path) l.stores 0 l.store-index
