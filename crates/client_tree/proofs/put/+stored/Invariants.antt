use Rattle.std.proofs.Common.{◌+◌, ◌*◌}
use Rattle.client_tree.specs.Runs.{Passes, AreGroups}
use Rattle.client_tree.specs.Stored.{IsStoredBelow}
use Rattle.client_tree.specs.Known.{IsIdle, IsKnownBelow}
use Rattle.client_tree.proofs.put.+stored.Given as goal

-- what stands in a folder stands one less deep than the folder
abbrev pub decreases-put_folders : goal.decreases-put_folders
decreases-put_folders g l = 2 * l.depth

abbrev pub decreases-put_folder : goal.decreases-put_folder
decreases-put_folder g l = 2 * l.depth + 1

abbrev pub invariant-put_folders-loop-item : goal.invariant-put_folders-loop-item
invariant-put_folders-loop-item g l =
    Passes g.S.Source.gave (IsIdle g.S.Source.kept g.S.Source.knew (IsKnownBelow l.children.items l.path))
    (AreGroups (IsStoredBelow l.children.items l.path)) l.fn.source l.source
