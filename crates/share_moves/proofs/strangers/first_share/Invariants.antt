use Rattle.std.proofs.Common.{◌≡◌, None, IsTrue, All, map, take}
use Rattle.share_moves.specs.Moves.{first_share_of}
use Rattle.share_moves.specs.Steps.{IsLookedAt}
use Rattle.share_moves.proofs.strangers.first_share.Given as goal

-- the stores so far don't have it
abbrev pub invariant-loop-server : goal.invariant-loop-server
invariant-loop-server g l = record {
  kept : IsLookedAt g.S.Store.honest g.S.Store.shares l.fn.from l.from;
  none : All (λ store. IsTrue (g.S.Store.honest store)) l.fn.from → first_share_of (take l.server (map g.S.Store.shares l.fn.from)) (l.index, l.number) ≡ None;
}
