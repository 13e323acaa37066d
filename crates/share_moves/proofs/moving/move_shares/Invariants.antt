use Rattle.std.proofs.Common.{◌≡◌, IsTrue, All, length, map, take}
use Rattle.grid.specs.Standing.{standing}
use Rattle.share_moves.specs.Moves.{with_moved_shares}
use Rattle.share_moves.proofs.Wholes.{AreFirstInPlace}
use Rattle.share_moves.proofs.moving.move_shares.Given as goal

-- the shares of the servers so far were put
abbrev pub invariant-loop-server : goal.invariant-loop-server
invariant-loop-server g l = record {
  kept : All (λ store. IsTrue (g.S.Store.honest store)) l.fn.from → map g.S.Store.shares l.from ≡ map g.S.Store.shares l.fn.from;
  upright : All (λ store. IsTrue (g.S.Store.honest store)) l.fn.from → All (λ store. IsTrue (g.S.Store.honest store)) l.from;
  honest : All (λ store. IsTrue (g.T.Store.honest store)) l.fn.into → All (λ store. IsTrue (g.T.Store.honest store)) l.into;
  moved : All (λ store. IsTrue (g.S.Store.honest store)) l.fn.from → All (λ store. IsTrue (g.T.Store.honest store)) l.fn.into →
      standing (map g.T.Store.shares l.into) ≡ with_moved_shares (length l.fn.into) (take l.server (map g.S.Store.shares l.fn.from)) (standing (map g.T.Store.shares l.fn.into));
  there : All (λ store. IsTrue (g.S.Store.honest store)) l.fn.from → All (λ store. IsTrue (g.T.Store.honest store)) l.fn.into → l.moved.others ≡ 0 →
      AreFirstInPlace (length l.fn.into) (map g.S.Store.shares l.fn.from) l.server (standing (map g.T.Store.shares l.into));
}
