-- What a call that changes answers and leaves, in records.
use Rattle.std.specs.Prelude.{◌≡◌, ◌<◌, ◌≤◌, ◌+◌, ◌⊎◌, ◌↔◌, Bool, true, false, IsTrue, Result, OnOk, OnErr, IsErrOf}
use Rattle.std.specs.Rc.{rc_slice_items}
use Rattle.share_store.specs.Shares.{Shares}
use Rattle.share_store.specs.History.{IsEither, GoesOnBy}
use Rattle.share_store.specs.Stored.{shares_in}
use Rattle.share_store.specs.declared.fault.StoreFault.{StoreFault}
use Rattle.share_store.specs.declared.fault.StoreFault.TheVariants.{Down}
use Rattle.share_shelf.specs.declared.shelf.Shelf.{Ghosts}
use Rattle.kept_store.specs.Step.{Crashes}
use Rattle.kept_store.specs.declared.kept_store.KeptStore.{KeptStore}

module _ {X : Type 0} {g : Ghosts X} where
  -- what stands in a store, all of it in memory
  abbrev pub shares_in_memory : KeptStore X g → Shares
  shares_in_memory store = shares_in rc_slice_items store.memory.shares.indexes

  -- A change of what stands is done, or refused and not done. The room and what is held are as much, taken together.
  pub record DoesOrRefuses (change : Shares → Shares) (result : Result Bool StoreFault) (old new : KeptStore X g) : Type 0 where
    pub shares : OnOk result (shares_in_memory new ≡ change (shares_in_memory old))
    pub err : OnErr result (shares_in_memory new ≡ shares_in_memory old)
    pub room : new.memory.room + new.memory.held ≡ old.memory.room + old.memory.held

  -- On an honest shelf a crash in the call leaves what stood before it or what the change makes of that, refused or not,
  -- and what the shelf tells of its past goes on by these two.
  pub record WritesThrough (change : Shares → Shares) (old new : KeptStore X g) : Type 0 where
    pub crash : Crashes g.moment g.left_since g.honest old.down old.shelf new.shelf (shares_in_memory old) (change (shares_in_memory old))
    pub history : IsTrue (g.honest old.shelf) → GoesOnBy (IsEither (shares_in_memory old) (change (shares_in_memory old))) (g.history old.shelf) (g.history new.shelf)

  -- Refused as down exactly where a failure was counted. The store goes down where its shelf failed, for good, and where
  -- it didn't fail, it stays up and isn't refused as down.
  pub record IsDownOnceFailed (result : Result Bool StoreFault) (old new : KeptStore X g) : Type 0 where
    pub rises : old.failures ≤ new.failures
    pub down : IsErrOf result Down ↔ (old.failures < new.failures)
    pub stays_down : old.down ≡ true → new.down ≡ true
    pub goes_down : g.failures old.shelf < g.failures new.shelf → new.down ≡ true
    pub stays_up : old.down ≡ false → g.failures new.shelf ≡ g.failures old.shelf → (new.down ≡ false) × (IsErrOf result Down → ⊥)

  -- Not answered where the shelf failed, and answered only where the store is up then or nothing changed.
  pub record GrantsOnlyKept (result : Result Bool StoreFault) (old new : KeptStore X g) : Type 0 where
    pub refused : g.failures old.shelf < g.failures new.shelf → OnOk result ⊥
    pub granted : OnOk result ((new.down ≡ false) ⊎ (shares_in_memory new ≡ shares_in_memory old))
