use Rattle.std.proofs.Common.{◌≡◌}
use Rattle.erasure.proofs.Places.{distance_below}
use Rattle.erasure.proofs.interpolation.distance.Given as goal

abbrev pub invariant-loop-m : goal.invariant-loop-m
invariant-loop-m l = l.product ≡ distance_below l.m l.places l.j l.x
