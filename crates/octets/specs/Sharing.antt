-- How many shares are enough of how many.
use Rattle.std.specs.Prelude.{ℕ, ◌≤◌, Bool, ◌&&◌, nat_le}

-- the most shares that are made of one file
abbrev pub most_shares : ℕ
most_shares = 256

-- `k` shares are enough of the `n` that are made
pub record IsSharing (k n : ℕ) : Type 0 where
  pub some : 1 ≤ k
  pub enough : k ≤ n
  pub limit : n ≤ most_shares

-- the same as a test
abbrev pub is_sharing : ℕ → ℕ → Bool
is_sharing k n = nat_le 1 k && nat_le k n && nat_le n most_shares
