use Rattle.std.proofs.Common.{◌≡◌, ℕ, List, Some, IsTrue, All, map, take}
use Rattle.std.specs.FinMap.{entries}
use Rattle.share_store.specs.Looked.{Looked}
use Rattle.share_store.specs.Shares.{ShareKey}
use Rattle.share_moves.specs.Moves.{moved_shares}
use Rattle.share_moves.specs.Steps.{found_share, IsLookedAt}
use Rattle.share_moves.proofs.strangers.stranger_at.Given as goal

-- the shares so far are moved ones
abbrev pub invariant-loop-at : goal.invariant-loop-at
invariant-loop-at g l = record {
  kept : IsLookedAt g.S.Store.honest g.S.Store.shares l.fn.from l.from;
  looked : Looked g.T.Store.honest g.T.Store.shares g.T.Store.room g.T.Store.failures l.fn.store l.store;
  none : All (λ store. IsTrue (g.S.Store.honest store)) l.fn.from → IsTrue (g.T.Store.honest l.fn.store) → (key : ShareKey) (s : List ℕ) →
      found_share (take l.at (entries (g.T.Store.shares l.fn.store))) key ≡ Some s → moved_shares l.servers (map g.S.Store.shares l.fn.from) l.server key ≡ Some s;
}
