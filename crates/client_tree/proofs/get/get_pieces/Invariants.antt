use Rattle.std.proofs.Common.{take}
use Rattle.client_tree.specs.Runs.{Passes}
use Rattle.client_tree.specs.Joined.{ArePiecesAt}
use Rattle.client_tree.proofs.get.get_pieces.Given as goal

abbrev pub invariant-loop-place : goal.invariant-loop-place
invariant-loop-place g l = Passes g.F.Folder.wrote g.F.Folder.kept (ArePiecesAt l.path (take l.place l.entry-items)) l.fn.folder l.folder
