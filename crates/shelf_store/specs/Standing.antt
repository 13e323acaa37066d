-- What stands in a store, and whether its shelf is honest.
use Rattle.std.specs.Prelude.{IsTrue}
use Rattle.share_store.specs.Shares.{Shares}
use Rattle.share_shelf.specs.declared.shelf.Shelf.{Ghosts}
use Rattle.shelf_store.specs.Doubt.{in_doubt, as_before}
use Rattle.shelf_store.specs.declared.shelf_store.ShelfStore.{ShelfStore}

module _ {X : Type 0} {g : Ghosts X} where
  -- what stood on its shelf before the change in doubt
  abbrev pub standing : ShelfStore X g → Shares
  standing store = as_before (in_doubt store.doubt) (g.shares store.shelf)

  abbrev pub IsHonest : ShelfStore X g → Type 0
  IsHonest store = IsTrue (g.honest store.shelf)
