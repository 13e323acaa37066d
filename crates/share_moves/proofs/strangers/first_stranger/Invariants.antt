use Rattle.std.proofs.Common.{IsTrue, All, map}
use Rattle.grid.specs.Standing.{standing}
use Rattle.share_moves.specs.Steps.{IsLookedAt}
use Rattle.share_moves.proofs.Wholes.{AreFirstMoved}
use Rattle.share_moves.proofs.strangers.first_stranger.Given as goal

-- the shares of the servers so far are moved ones
abbrev pub invariant-loop-server : goal.invariant-loop-server
invariant-loop-server g l = record {
  from : IsLookedAt g.S.Store.honest g.S.Store.shares l.fn.from l.from;
  into : IsLookedAt g.T.Store.honest g.T.Store.shares l.fn.into l.into;
  none : All (λ store. IsTrue (g.S.Store.honest store)) l.fn.from → All (λ store. IsTrue (g.T.Store.honest store)) l.fn.into →
      AreFirstMoved l.servers (map g.S.Store.shares l.fn.from) l.server (standing (map g.T.Store.shares l.fn.into));
}
