use Rattle.std.proofs.Common.{◌≡◌, take}
use Rattle.client_tree.specs.Parts.{caps_of}
use Rattle.client_tree.proofs.pieces.has_caps.Given as goal

abbrev pub invariant-loop-place : goal.invariant-loop-place
invariant-loop-place l = caps_of (take l.place l.entries) ≡ take l.place l.caps
