-- How many bytes the shares of a store have after a change.
use Rattle.std.specs.Prelude.{◌≡◌, ◌+◌, ℕ, List, length, if◌then◌else◌}
use Rattle.std.specs.FinMap.{remove, contains_key}
use Rattle.share_store.specs.Shares.{Shares, ShareKey, bytes_of}
use Rattle.share_store.specs.Put.{put_once}
use Rattle.share_store.specs.Toggle.{bytes_at, with_toggle}

-- A share that is put where none stood adds its bytes, one that is lost takes its own, and a changed bit none.
pub record SizeLaws : Type 0 where
  pub put : (shares : Shares) (key : ShareKey) (bytes : List ℕ) → bytes_of (put_once shares key bytes) ≡ bytes_of shares + (if contains_key shares key then 0 else length bytes)
  pub lost : (shares : Shares) (key : ShareKey) → bytes_of (remove shares key) + length (bytes_at shares key) ≡ bytes_of shares
  pub toggled : (shares : Shares) (key : ShareKey) (place : ℕ) → bytes_of (with_toggle shares key place) ≡ bytes_of shares
