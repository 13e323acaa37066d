use Rattle.std.proofs.Common.{◌+◌, ◌*◌, take}
use Rattle.client_tree.specs.Runs.{Passes}
use Rattle.client_tree.specs.Trees.{AreTreesOf}
use Rattle.client_tree.proofs.get.+tree.Given as goal

-- a folder's children stand as deep as its own place says, and each of them one less
abbrev pub decreases-get_node : goal.decreases-get_node
decreases-get_node g l = 3 * l.depth

abbrev pub decreases-get_entry : goal.decreases-get_entry
decreases-get_entry g l = 3 * l.depth + 1

abbrev pub decreases-get_children : goal.decreases-get_children
decreases-get_children g l = 3 * l.depth + 2

abbrev pub invariant-get_children-loop-entry : goal.invariant-get_children-loop-entry
invariant-get_children-loop-entry g l = Passes g.F.Folder.wrote g.F.Folder.kept (AreTreesOf l.path (take l.entry-index l.entry-items)) l.fn.folder l.folder
