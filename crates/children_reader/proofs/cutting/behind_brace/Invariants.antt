use Rattle.children_reader.proofs.Braces.{IsSpaceTo}
use Rattle.children_reader.proofs.cutting.behind_brace.Given as goal

abbrev pub invariant-loop-i : goal.invariant-loop-i
invariant-loop-i l = IsSpaceTo l.json l.i
