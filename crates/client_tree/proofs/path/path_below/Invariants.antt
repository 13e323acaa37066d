use Rattle.std.proofs.Common.{◌≡◌, take}
use Rattle.client_tree.proofs.path.path_below.Given as goal

abbrev pub invariant-loop-step : goal.invariant-loop-step
invariant-loop-step l = l.below.items ≡ take l.step-index l.path
