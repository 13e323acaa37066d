-- What an index knows of shares.
use Rattle.std.proofs.Common.{◌≡◌, ◌⊎◌, ◌+◌, ◌∙◌}
use Rattle.std.specs.FinMap.{remove}
use Rattle.share_store.specs.Shares.{Shares, ShareKey, bytes_of}
use Rattle.share_store.specs.Stored.{shares_in}
use Rattle.share_store.specs.Stored.{blank}
use Rattle.shelf_store.specs.Sizes.{sizes_of}
use Rattle.shelf_store.specs.SizeLaws.{bytes_as}
use Rattle.shelf_store.specs.declared.share_sizes.ShareSizes.{ShareSizes}

-- the shares that stand, each byte of them 0
abbrev pub known : ShareSizes → Shares
known index = shares_in blank index.lengths.indexes

-- the room and what is held are as much, taken together
abbrev pub IsAsRoomy : ShareSizes → ShareSizes → Type 0
IsAsRoomy old new = new.room + new.held ≡ old.room + old.held

-- The index is as it was, or without this share.
abbrev pub ForgetsOnly : ShareKey → ShareSizes → ShareSizes → Type 0
ForgetsOnly key old new = (new ≡ old) ⊎ (known new ≡ remove (known old) key)

pub held_as : (index : ShareSizes) (m : Shares) → sizes_of (known index) ≡ sizes_of m → index.held ≡ bytes_of m
held_as index m is = index.summed ∙ bytes_as (known index) m is
