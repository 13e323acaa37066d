use Rattle.std.proofs.Common.{◌≡◌, IsTrue, All, length, map, take}
use Rattle.std.specs.FinMap.{entries}
use Rattle.share_store.specs.Looked.{Looked}
use Rattle.grid.specs.Standing.{standing}
use Rattle.share_moves.specs.Steps.{found_share, with_found, AreFoundInPlace}
use Rattle.share_moves.proofs.moving.move_server.Given as goal

-- the shares so far were put
abbrev pub invariant-loop-at : goal.invariant-loop-at
invariant-loop-at g l = record {
  looked : Looked g.S.Store.honest g.S.Store.shares g.S.Store.room g.S.Store.failures l.fn.from l.from;
  honest : All (λ store. IsTrue (g.T.Store.honest store)) l.fn.into → All (λ store. IsTrue (g.T.Store.honest store)) l.into;
  moved : IsTrue (g.S.Store.honest l.fn.from) → All (λ store. IsTrue (g.T.Store.honest store)) l.fn.into →
      standing (map g.T.Store.shares l.into) ≡ with_found (length l.fn.into) (found_share (take l.at (entries (g.S.Store.shares l.fn.from)))) (standing (map g.T.Store.shares l.fn.into));
  there : IsTrue (g.S.Store.honest l.fn.from) → All (λ store. IsTrue (g.T.Store.honest store)) l.fn.into → l.moved.others ≡ 0 →
      (l.fn.moved.others ≡ 0) × AreFoundInPlace (length l.fn.into) (found_share (take l.at (entries (g.S.Store.shares l.fn.from)))) (standing (map g.T.Store.shares l.into));
}
