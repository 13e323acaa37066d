use Rattle.client_tree.specs.Runs.{Passes, AreGroups}
use Rattle.client_tree.specs.Known.{IsIdle, IsKnownBelow}
use Rattle.client_tree.specs.UnderWay.{IsInHand}
use Rattle.client_tree.proofs.put.put_files.Given as goal

abbrev pub invariant-loop-item : goal.invariant-loop-item
invariant-loop-item g l =
    Passes g.S.Source.gave (IsIdle g.S.Source.kept g.S.Source.knew (IsKnownBelow l.known.items l.path))
    (AreGroups (IsInHand l.window.children.items l.window.waiting.items l.path)) l.fn.source l.source
