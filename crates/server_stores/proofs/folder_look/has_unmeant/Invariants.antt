use Rattle.std.specs.List.{AllWithin}
use Rattle.server_stores.specs.FolderLook.{IsUnmeant}
use Rattle.server_stores.proofs.folder_look.has_unmeant.Given as goal

-- in no folder that was looked at a store would be begun that isn't meant
abbrev pub invariant-loop-one : goal.invariant-loop-one
invariant-loop-one l = AllWithin (λ one. ¬ (IsUnmeant one)) l.seen 0 l.one-index
