-- The shares of some stores, laid among another number of stores.
use Rattle.std.specs.Prelude.{◌≡◌, ◌⊎◌, ℕ, ◌==◌, List, [], ◌∷◌, Option, Some, None, if◌then◌else◌}
use Rattle.std.specs.Option.{option_or}
use Rattle.std.specs.FinMap.{get}
use Rattle.share_store.specs.Shares.{Shares, ShareKey}
use Rattle.grid.specs.Standing.{Standing, standing}
use Rattle.grid.specs.Placement.{server_of}

-- the share of a key that the first of these stores has that has one
abbrev pub first_share_of : List Shares → ShareKey → Option (List ℕ)
first_share_of [] key = None
first_share_of (m ∷ maps) key = option_or (get m key) (first_share_of maps key)

-- the shares of these stores as so many servers have them: each in its place, and nothing else
abbrev pub moved_shares : ℕ → List Shares → Standing
moved_shares count maps server key = if server == server_of count key.0 key.1 then first_share_of maps key else None

-- with these shares put, each in its place, where none stood
abbrev pub with_moved_shares : ℕ → List Shares → Standing → Standing
with_moved_shares count maps before server key = option_or (before server key) (moved_shares count maps server key)

-- at each place there stands what stood before the shares were laid, or what stands after that
abbrev pub IsPartlyMoved : ℕ → List Shares → Standing → Standing → Type 0
IsPartlyMoved count maps before now = (server : ℕ) (key : ShareKey) → (now server key ≡ before server key) ⊎ (now server key ≡ with_moved_shares count maps before server key)

-- each share that stands in these stores stands in its place
abbrev pub AreSharesInPlace : ℕ → List Shares → Standing → Type 0
AreSharesInPlace count maps now = (server : ℕ) (key : ShareKey) (s : List ℕ) → standing maps server key ≡ Some s → now (server_of count key.0 key.1) key ≡ Some s

-- whatever stands is a share of these stores in its place
abbrev pub AreMovedShares : ℕ → List Shares → Standing → Type 0
AreMovedShares count maps now = (server : ℕ) (key : ShareKey) (s : List ℕ) → now server key ≡ Some s → moved_shares count maps server key ≡ Some s
