use Rattle.client_tree.specs.Runs.{Passes}
use Rattle.client_tree.proofs.Read.{IsReadUpTo}
use Rattle.client_tree.proofs.pieces.put_rest.Given as goal

abbrev pub invariant-loop : goal.invariant-loop
invariant-loop g l = Passes g.S.Source.gave g.S.Source.kept (IsReadUpTo l.path l.caps.items l.size l.fn.first.items l.piece.items) l.fn.source l.source
