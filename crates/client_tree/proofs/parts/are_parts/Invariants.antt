use Rattle.std.proofs.Common.{length, drop}
use Rattle.std.specs.Prelude.{◌↔◌}
use Rattle.client_tree.specs.Parts.{ArePartsFrom}
use Rattle.client_tree.proofs.parts.are_parts.Given as goal

abbrev pub invariant-loop-place : goal.invariant-loop-place
invariant-loop-place l =
    ArePartsFrom (length l.entries) l.size l.place l.left (drop l.place l.entries) ↔ ArePartsFrom (length l.entries) l.size 0 l.size l.entries
