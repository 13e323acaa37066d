use Rattle.std.proofs.Common.{◌≡◌}
use Rattle.std.specs.List.{AllWithin}
use Rattle.server_stores.specs.declared.folders.Found.TheVariants.{New}
use Rattle.server_stores.proofs.folder_look.has_old.Given as goal

-- each folder that was looked at is new
abbrev pub invariant-loop-one : goal.invariant-loop-one
invariant-loop-one l = AllWithin (λ one. one.found ≡ New) l.seen 0 l.one-index
