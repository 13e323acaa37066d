use Rattle.std.specs.Prelude.{⊤}
use Rattle.share_repair.proofs.choosing.stands.Given as goal

abbrev pub invariant-loop-one : goal.invariant-loop-one
invariant-loop-one l = ⊤
