-- What an open over a shelf gives, and how it is refused.
use Rattle.std.specs.Prelude.{◌≡◌, ◌<◌, ◌↔◌, ℕ, ◌+◌, [], Some, None, IsTrue, Result, Err, IsErrOf}
use Rattle.std.specs.FinMap.{get}
use Rattle.share_store.specs.Shares.{Shares, ShareKey, bytes_of}
use Rattle.share_store.specs.declared.fault.StoreFault.TheVariants.{Full, Down}
use Rattle.share_shelf.specs.CrashStates.{Keeps}
use Rattle.share_shelf.specs.declared.fault.ShelfFault.TheVariants.{Failed}
use Rattle.share_shelf.specs.declared.open_fault.OpenFault.{OpenFault}
use Rattle.share_shelf.specs.declared.open_fault.OpenFault.TheVariants.{Empty, Shelf as ShelfRefused, Store as StoreRefused}
use Rattle.share_shelf.specs.declared.shelf.Shelf.{Ghosts}
use Rattle.shelf_store.specs.Doubt.{in_doubt}
use Rattle.shelf_store.specs.Looks.{IsOnlyRead}
use Rattle.shelf_store.specs.Standing.{standing}
use Rattle.shelf_store.specs.declared.shelf_store.ShelfStore.{ShelfStore}

module _ {X : Type 0} (g : Ghosts X) where
  -- said of the shares that an honest shelf keeps
  abbrev pub OfKept : X → (Shares → Type 0) → Type 0
  OfKept shelf P = IsTrue (g.honest shelf) → (m : Shares) → Keeps g.moment g.left_since shelf m → P m

  -- A shelf was only read. It failed exactly where that is the refusal, and none is as down.
  pub record ReadsFor {A : Type 0} (result : Result A OpenFault) (old new : X) : Type 0 where
    pub read : IsOnlyRead g old new
    pub failed : (result ≡ Err (ShelfRefused Failed)) ↔ (g.failures old < g.failures new)
    pub not_down : IsErrOf result (StoreRefused Down) → ⊥

  -- A store over a shelf that was only read: it has what the shelf keeps, and takes so many bytes.
  pub record IsShelfOpened (bytes : ℕ) (shelf : X) (store : ShelfStore X g) : Type 0 where
    pub up : in_doubt store.doubt ≡ None
    pub none_failed : store.failures ≡ 0
    pub room : store.sizes.room + store.sizes.held ≡ bytes
    pub read : IsOnlyRead g shelf store.shelf
    pub shares : OfKept shelf (λ m. standing store ≡ m)

  -- Why there is none over a shelf that was only read, which is new now.
  pub record IsOpenRefused (bytes : ℕ) (old new : X) (fault : OpenFault) : Type 0 where
    pub read : IsOnlyRead g old new
    pub failed : (fault ≡ ShelfRefused Failed) ↔ (g.failures old < g.failures new)
    pub not_down : fault ≡ StoreRefused Down → ⊥
    pub empty : fault ≡ Empty → OfKept old (λ m. (key : ShareKey) × (get m key ≡ Some []))
    pub full : fault ≡ StoreRefused Full → OfKept old (λ m. bytes < bytes_of m)
