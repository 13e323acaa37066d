use Rattle.std.proofs.Common.{◌≡◌, length}
use Rattle.path_names.specs.Names.{has_bad_escape}
use Rattle.path_names.proofs.segments.has_bad_escape.Given as goal

abbrev pub invariant-loop-byte : goal.invariant-loop-byte
invariant-loop-byte l = has_bad_escape l.path ≡ has_bad_escape l.rest

abbrev pub decreases-loop-byte : goal.decreases-loop-byte
decreases-loop-byte l = length l.rest
