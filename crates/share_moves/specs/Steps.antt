-- Shares that are laid one after the other; for private clauses.
use Rattle.std.specs.Prelude.{◌≡◌, ℕ, ◌==◌, Bool, IsTrue, List, map, All, Option, Some, None, if◌then◌else◌}
use Rattle.std.specs.Option.{option_or}
use Rattle.std.specs.FinMap.{find}
use Rattle.std.specs.Ordering.{eq_by_cmp}
use Rattle.share_store.specs.Shares.{Shares, ShareKey, ShareEntry, key_cmp}
use Rattle.grid.specs.Standing.{Standing}
use Rattle.grid.specs.Placement.{server_of}

-- one share by its key; for private clauses
abbrev pub single_share : ShareKey → List ℕ → ShareKey → Option (List ℕ)
single_share key bytes q = if eq_by_cmp key_cmp q key then Some bytes else None

-- the first of these shares that has a key; for private clauses
abbrev pub found_share : List ShareEntry → ShareKey → Option (List ℕ)
found_share es q = find key_cmp q es

-- with the shares put that are found so, each in its place, where none stood; for private clauses
abbrev pub with_found : ℕ → (ShareKey → Option (List ℕ)) → Standing → Standing
with_found count found before server key = option_or (before server key) (if server == server_of count key.0 key.1 then found key else None)

-- each share that is found so stands in its place; for private clauses
abbrev pub AreFoundInPlace : ℕ → (ShareKey → Option (List ℕ)) → Standing → Type 0
AreFoundInPlace count found now = (key : ShareKey) (s : List ℕ) → found key ≡ Some s → now (server_of count key.0 key.1) key ≡ Some s

-- of stores that are honest nothing was changed, and they are honest still; for private clauses
pub record IsLookedAt {S : Type 0} (honest : S → Bool) (shares : S → Shares) (old new : List S) : Type 0 where
  pub still_honest : All (λ store. IsTrue (honest store)) old → All (λ store. IsTrue (honest store)) new
  pub same_shares : All (λ store. IsTrue (honest store)) old → map shares new ≡ map shares old
