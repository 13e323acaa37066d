use Rattle.std.proofs.Common.{◌≡◌, ◌<◌, ℕ, List, IsTrue, map, take, drop, Some, slice_get}
use Rattle.std.specs.FinMap.{get}
use Rattle.std.specs.Rc.{rc_slice_items}
use Rattle.share_store.specs.Looked.{Looked}
use Rattle.share_store.specs.NumberedShares.{AllBut, numbered_bytes}
use Rattle.share_store.specs.Shared.{IsShared, TellsOn}
use Rattle.share_store.proofs.Amassed.{IsAmassed}
use Rattle.share_store.proofs.store.Store.gather.Given as goal

-- of whatever shares have these numbers and stand there, those so far were given, but for failures
abbrev pub invariant-loop-number : goal.invariant-loop-number
invariant-loop-number g l = record {
  looked : Looked g.Self.Store.honest g.Self.Store.shares g.Self.Store.room g.Self.Store.failures l.fn.self l.self;
  same_history : IsTrue (g.Self.Store.honest l.fn.self) → g.Self.Store.history l.self ≡ g.Self.Store.history l.fn.self;
  told : TellsOn g.Self.Store.honest g.Self.Store.history l.fn.self l.self;
  risen : g.Self.Store.failures l.fn.self < g.Self.Store.failures l.initial.self → g.Self.Store.failures l.fn.self < g.Self.Store.failures l.self;
  found : IsTrue (g.Self.Store.honest l.fn.self) → (ss : List (ℕ × List ℕ)) → l.number-items ≡ map (λ s. s.0) ss → ((i : ℕ) (s : ℕ × List ℕ) → slice_get ss i ≡ Some s → get (g.Self.Store.shares l.fn.self) (l.index, s.0) ≡ Some s.1) →
      AllBut (λ (_ : ℕ × List ℕ). g.Self.Store.failures l.fn.self < g.Self.Store.failures l.self) (take l.number-index ss) (map (numbered_bytes rc_slice_items) l.found.items);
  seen : IsShared (g.Self.Store.honest l.fn.self) (g.Self.Store.history l.fn.self) →
      IsAmassed (g.Self.Store.history l.fn.self) (g.Self.Store.history l.self) (g.Self.Store.failures l.fn.self < g.Self.Store.failures l.self) l.index l.fn.limit (drop l.number-index l.number-items) (map (numbered_bytes rc_slice_items) l.found.items);
}
