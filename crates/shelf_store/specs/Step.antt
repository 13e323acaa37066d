-- An index in memory and the shelf that has the bytes; for private clauses.
use Rattle.std.specs.Prelude.{◌≡◌, ◌⊎◌, ℕ, Bool, List, IsTrue}
use Rattle.std.specs.Coded.{Coded-set, coded×, coded_ℕ, coded_list}
use Rattle.std.proofs.Props.{props}
use Rattle.share_store.specs.Shares.{Shares, ShareKey}
use Rattle.share_shelf.specs.CrashStates.{IsEither, LeavesOnly, shares-set}
use Rattle.shelf_store.specs.Sizes.{sizes_of}
use Rattle.shelf_store.specs.Doubt.{InDoubt, as_before}

pub sizes-set : (a b : List (ShareKey × ℕ)) → IsProp (a ≡ b)
sizes-set a b = Coded-set (coded_list (coded× (coded× (coded_list coded_ℕ) coded_ℕ) coded_ℕ)) a b

module _ {H : Type 0} (moment : H → ℕ) (left_since : H → ℕ → Shares → Type 0) (honest : H → Bool) (shares : H → Shares) where
  -- What stands is what stood on the shelf before the change in doubt. Where the shelf is honest, the index has each of
  -- these shares with its length and no other, and a crash leaves these, but for the share in doubt.
  pub record IsInStep (doubt : InDoubt) (shelf : H) (index : Shares) : Type 0 where
    pub sizes : IsTrue (honest shelf) → sizes_of index ≡ sizes_of (as_before doubt (shares shelf))
    pub left : IsTrue (honest shelf) → (c : Shares) → left_since shelf (moment shelf) c → as_before doubt c ≡ as_before doubt (shares shelf)

  pub IsInStep-prop : (doubt : InDoubt) (shelf : H) (index : Shares) → IsProp (IsInStep doubt shelf index)
  IsInStep-prop doubt shelf index = hlevel (props, shares-set, sizes-set)

  -- What a crash in a call may leave, which is to make these shares of those before it: what it might have left before
  -- the call, or one of the two. So it leaves what stood, but for the share in doubt, or what was to be made.
  pub record Crashes (doubt : InDoubt) (old new : H) (before after : Shares) : Type 0 where
    pub leaves : IsTrue (honest old) → LeavesOnly moment left_since old new (IsEither before after)
    pub left : IsTrue (honest old) → (c : Shares) → left_since new (moment old) c → (as_before doubt c ≡ before) ⊎ (c ≡ after)
    pub same_honest : honest new ≡ honest old
