use Rattle.std.proofs.Common.{◌≡◌, ◌+◌}
use Rattle.std.specs.Prelude.{take, IsTrue}
use Rattle.std.specs.FinMap.{entries}
use Rattle.share_store.specs.Shares.{Shares}
use Rattle.share_shelf.specs.CrashStates.{Keeps, IsQuiet}
use Rattle.shelf_store.specs.Known.{known}
use Rattle.shelf_store.proofs.Opens.{IsBegun}
use Rattle.shelf_store.proofs.opened.take_all.Given as goal

abbrev pub invariant-loop-name : goal.invariant-loop-name
invariant-loop-name g l = record {
  quiet : IsQuiet g.H.Shelf.moment g.H.Shelf.left_since l.fn.shelf l.shelf;
  same_honest : g.H.Shelf.honest l.shelf ≡ g.H.Shelf.honest l.fn.shelf;
  rises : g.H.Shelf.failures l.shelf ≡ g.H.Shelf.failures l.fn.shelf;
  same_room : l.taken.room + l.taken.held ≡ l.fn.room;
  begun : IsTrue (g.H.Shelf.honest l.fn.shelf) → (m : Shares) → Keeps g.H.Shelf.moment g.H.Shelf.left_since l.fn.shelf m → IsBegun (known l.taken) (take l.name-index (entries m));
}
