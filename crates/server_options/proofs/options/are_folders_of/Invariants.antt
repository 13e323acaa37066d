use Rattle.std.specs.List.{AllWithin}
use Rattle.server_options.specs.Folders.{IsStoreFolder}
use Rattle.server_options.proofs.options.are_folders_of.Given as goal

-- each path that was looked at is that of a store's folder
abbrev pub invariant-loop-path : goal.invariant-loop-path
invariant-loop-path l = AllWithin (λ path. IsStoreFolder l.stores path.now) l.paths 0 l.path-index
