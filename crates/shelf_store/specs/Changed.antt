-- What a call that changes answers and leaves, in records.
use Rattle.std.specs.Prelude.{◌≡◌, ◌<◌, ◌≤◌, ◌↔◌, Bool, true, false, is_some, None, Result, Ok, IfOk, OnOk, OnErr, IsErrOf}
use Rattle.share_store.specs.Shares.{Shares}
use Rattle.share_store.specs.declared.fault.StoreFault.{StoreFault}
use Rattle.share_store.specs.declared.fault.StoreFault.TheVariants.{Down, NoMemory}
use Rattle.share_shelf.specs.CrashStates.{LeavesOnly}
use Rattle.share_shelf.specs.declared.shelf.Shelf.{Ghosts}
use Rattle.shelf_store.specs.Doubt.{in_doubt}
use Rattle.shelf_store.specs.Known.{known, IsAsRoomy}
use Rattle.shelf_store.specs.Looks.{IsFailureCounted}
use Rattle.shelf_store.specs.Standing.{standing, IsHonest}
use Rattle.shelf_store.specs.Step.{Crashes}
use Rattle.shelf_store.specs.declared.shelf_store.ShelfStore.{ShelfStore}

module _ {X : Type 0} {g : Ghosts X} where
  -- The shelf was told at most to put back what stood before the change in doubt.
  pub record PutsBack (old new : ShelfStore X g) : Type 0 where
    pub crash : IsHonest old → LeavesOnly g.moment g.left_since old.shelf new.shelf (λ c. c ≡ standing old)
    pub stands : IsHonest old → standing new ≡ standing old
    pub honest : g.honest new.shelf ≡ g.honest old.shelf
    pub rises_below : g.failures old.shelf ≤ g.failures new.shelf
    pub failed_in_doubt : g.failures old.shelf < g.failures new.shelf → is_some (in_doubt new.doubt) ≡ true
    pub sizes : new.sizes ≡ old.sizes

  -- Refused as down exactly where a failure was counted, and not answered where the shelf failed, which is counted.
  pub record TellsCause {A : Type 0} (result : Result A StoreFault) (old new : ShelfStore X g) : Type 0 where
    pub rises : old.failures ≤ new.failures
    pub down : IsErrOf result Down ↔ (old.failures < new.failures)
    pub counts : g.failures old.shelf < g.failures new.shelf → OnOk result ⊥ × IsFailureCounted old.failures new.failures

  -- A change of shares, asked for where this is true of them: it is done and answered so, or refused and not done.
  pub record CarriesOut (asked : Shares → Bool) (change : Shares → Shares) (result : Result Bool StoreFault) (old new : ShelfStore X g) : Type 0 where
    pub answer : IsHonest old → IfOk result (λ done. done ≡ asked (standing old))
    pub shares : IsHonest old → OnOk result (standing new ≡ change (standing old))
    pub err : IsHonest old → OnErr result (standing new ≡ standing old)
    pub crash : Crashes g.moment g.left_since g.honest g.shares (in_doubt old.doubt) old.shelf new.shelf (standing old) (change (standing old))

  -- What it leaves of the index and of a change in doubt. Where the index says that nothing is asked, all stays as it was.
  pub record Settles (asked : Shares → Bool) (result : Result Bool StoreFault) (old new : ShelfStore X g) : Type 0 where
    pub room : IsAsRoomy old.sizes new.sizes
    pub comes_up : asked (known old.sizes) ≡ true → g.failures new.shelf ≡ g.failures old.shelf → (IsErrOf result NoMemory → ⊥) → in_doubt new.doubt ≡ None
    pub stays_in_doubt : g.failures new.shelf ≡ g.failures old.shelf → is_some (in_doubt new.doubt) ≡ true → new.doubt ≡ old.doubt
    pub unasked : asked (known old.sizes) ≡ false → (result ≡ Ok false) × (new ≡ old)
