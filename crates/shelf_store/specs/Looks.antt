-- What a call that looks gives and leaves, in records.
use Rattle.std.specs.Prelude.{◌≡◌, ◌<◌, ◌≤◌, ℕ, ◌+◌, ◌-◌, ◌^◌, ◌==◌, if◌then◌else◌, length, Option, Some, None, Result, Ok, IfOk, IfSome, IfNone}
use Rattle.std.specs.Option.{option_map}
use Rattle.std.specs.FinMap.{get}
use Rattle.std.specs.Rc.{rc_slice_items}
use Rattle.std.specs.declared.rc.RcSlice.{RcSlice}
use Rattle.std.specs.declared.alloc.AllocError.{AllocError}
use Rattle.std.specs.declared.alloc.Global.{Global}
use Rattle.share_store.specs.Shares.{ShareKey}
use Rattle.share_store.specs.Stored.{blank}
use Rattle.share_shelf.specs.CrashStates.{IsQuiet}
use Rattle.share_shelf.specs.declared.shelf.Shelf.{Ghosts}
use Rattle.shelf_store.specs.Known.{known, IsAsRoomy, ForgetsOnly}
use Rattle.shelf_store.specs.Standing.{standing, IsHonest}
use Rattle.shelf_store.specs.declared.shelf_store.ShelfStore.{ShelfStore}

-- what was lent of a share
abbrev pub Lent : Type 0
Lent = Option (RcSlice ℕ Global)

-- one failure more, up to 2^64 - 1 of them
abbrev pub IsFailureCounted : ℕ → ℕ → Type 0
IsFailureCounted old new = new ≡ (if old == 2 ^ 64 - 1 then old else old + 1)

-- A shelf was read at most.
pub record IsOnlyRead {X : Type 0} (g : Ghosts X) (old new : X) : Type 0 where
  pub quiet : IsQuiet g.moment g.left_since old new
  pub honest : g.honest new ≡ g.honest old
  pub rises : g.failures old ≤ g.failures new

module _ {X : Type 0} {g : Ghosts X} where
  -- It is counted that the shelf failed, which isn't asked.
  pub record CountsOnly (old new : ShelfStore X g) : Type 0 where
    pub counts : IsFailureCounted old.failures new.failures
    pub rises : old.failures ≤ new.failures
    pub shelf : new.shelf ≡ old.shelf
    pub doubt : new.doubt ≡ old.doubt
    pub stands : standing new ≡ standing old

  -- The shelf was read at most, and the change in doubt is as it was.
  pub record ReadsOnly (old new : ShelfStore X g) : Type 0 where
    pub read : IsOnlyRead g old.shelf new.shelf
    pub same_shares : IsHonest old → g.shares new.shelf ≡ g.shares old.shelf
    pub stands : IsHonest old → standing new ≡ standing old
    pub doubt : new.doubt ≡ old.doubt

  -- Where the shelf failed nothing is given and a failure is counted; over an honest shelf no other is.
  pub record CountsNone {A : Type 0} (result : Result (Option A) AllocError) (old new : ShelfStore X g) : Type 0 where
    pub counts : g.failures old.shelf < g.failures new.shelf → IfOk result (λ given. given ≡ None) × IsFailureCounted old.failures new.failures
    pub counts_only : IsHonest old → g.failures new.shelf ≡ g.failures old.shelf → new.failures ≡ old.failures

  -- What the shelf gave not, though it didn't fail, leaves the index, and nothing else does.
  pub record Forgets (key : ShareKey) (result : Result Lent AllocError) (old new : ShelfStore X g) : Type 0 where
    pub forgets : g.failures new.shelf ≡ g.failures old.shelf → IfOk result (λ bytes. IfNone bytes (get (known new.sizes) key ≡ None))
    pub forgets_only : ForgetsOnly key old.sizes new.sizes
    pub kept_honest : IsHonest old → new.sizes ≡ old.sizes
    pub kept_failed : g.failures old.shelf < g.failures new.shelf → new.sizes ≡ old.sizes
    pub kept_given : IfOk result (λ bytes. IfSome bytes (λ b. new.sizes ≡ old.sizes))
    pub room : IsAsRoomy old.sizes new.sizes

  -- the bytes of a share, as they stand
  abbrev pub GivesStored : ShareKey → Result Lent AllocError → ShelfStore X g → Type 0
  GivesStored key result store = IfOk result (λ bytes. option_map rc_slice_items bytes ≡ get (standing store) key)

  -- A look at a share, beside what each store says of one.
  pub record LooksAt (key : ShareKey) (result : Result Lent AllocError) (old new : ShelfStore X g) : Type 0 where
    pub sized : IfOk result (λ bytes. IfSome bytes (λ b. get (known old.sizes) key ≡ Some (blank (length (rc_slice_items b)))))
    pub absent : get (known old.sizes) key ≡ None → (result ≡ Ok None) × (new ≡ old)
    pub failing : CountsNone result old new
    pub reads : ReadsOnly old new
    pub index : Forgets key result old new
