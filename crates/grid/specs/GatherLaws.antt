-- What the shares that were gathered say.
use Rattle.std.specs.Prelude.{◌≡◌, ◌<◌, ◌==◌, ℕ, List, All, filter, Some}
use Rattle.share_store.specs.Shares.{Shares}
use Rattle.grid.specs.Standing.{standing}
use Rattle.share_store.specs.NumberedShares.{AllBut}
use Rattle.grid.specs.Found.{found_below}

-- Where only shares of servers whose count rose may be missing: all were given where none rose, and all of a server
-- were given where its own didn't. Whatever is found stands.
pub record GatherLaws : Type 0 where
  pub none_missing : (before after : ℕ → ℕ) (all given : List (ℕ × ℕ × List ℕ)) → ((s : ℕ) → after s ≡ before s) → AllBut (λ f. before f.0 < after f.0) all given → given ≡ all
  pub all_of_server : (before after : ℕ → ℕ) (s : ℕ) (all given : List (ℕ × ℕ × List ℕ)) → after s ≡ before s → AllBut (λ f. before f.0 < after f.0) all given
      → filter (λ f. f.0 == s) given ≡ filter (λ f. f.0 == s) all
  pub stands : (maps : List Shares) (index : List ℕ) (servers : ℕ) → All (λ f. standing maps f.0 (index, f.1) ≡ Some f.2) (found_below maps index servers)
