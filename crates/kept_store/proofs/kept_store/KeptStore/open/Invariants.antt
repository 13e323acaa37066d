use Rattle.std.proofs.Common.{◌≡◌, ◌+◌}
use Rattle.std.specs.Prelude.{take, IsTrue}
use Rattle.std.specs.FinMap.{empty, entries}
use Rattle.std.specs.Rc.{rc_slice_items}
use Rattle.share_store.specs.Shares.{Shares}
use Rattle.share_store.specs.Stored.{shares_in}
use Rattle.share_shelf.specs.CrashStates.{Keeps, IsQuiet}
use Rattle.kept_store.specs.Filled.{filled_shares}
use Rattle.kept_store.proofs.kept_store.KeptStore.open.Given as goal

abbrev pub invariant-loop-name : goal.invariant-loop-name
invariant-loop-name g l = record {
  quiet : IsQuiet g.H.Shelf.moment g.H.Shelf.left_since l.fn.shelf l.shelf;
  same_honest : g.H.Shelf.honest l.shelf ≡ g.H.Shelf.honest l.fn.shelf;
  same_history : IsTrue (g.H.Shelf.honest l.fn.shelf) → g.H.Shelf.history l.shelf ≡ g.H.Shelf.history l.fn.shelf;
  same_room : l.memory.room + l.memory.held ≡ l.fn.room;
  filled : IsTrue (g.H.Shelf.honest l.fn.shelf) → (m : Shares) → Keeps g.H.Shelf.moment g.H.Shelf.left_since l.fn.shelf m → shares_in rc_slice_items l.memory.shares.indexes ≡ filled_shares (take l.name-index (entries m)) empty;
}
