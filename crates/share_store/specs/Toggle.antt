-- The lowest bit of one byte of a share, changed.
use Rattle.std.specs.Prelude.{◌≡◌, ℕ, Bool, List, [], length, if◌then◌else◌, bit_xor, slice_set, slice_index, nat_lt, unwrap_or}
use Rattle.std.specs.FinMap.{get, insert}
use Rattle.share_store.specs.Shares.{Shares, ShareKey}

-- with the lowest bit of the byte at a place changed
abbrev pub toggled : List ℕ → ℕ → List ℕ
toggled bytes place = slice_set bytes place (bit_xor (slice_index bytes place) 1)

-- the bytes of the share there, none where none stands
abbrev pub bytes_at : Shares → ShareKey → List ℕ
bytes_at shares key = unwrap_or (get shares key) []

-- whether the share there has a byte at that place
abbrev pub has_byte : Shares → ShareKey → ℕ → Bool
has_byte shares key place = nat_lt place (length (bytes_at shares key))

-- with the bit changed, where there is such a byte
abbrev pub with_toggle : Shares → ShareKey → ℕ → Shares
with_toggle shares key place =
    if has_byte shares key place then insert shares key (toggled (bytes_at shares key) place) else shares

-- What changed bits do to bytes: a second change undoes the first, the order doesn't matter, and no byte comes or goes.
pub record ToggleLaws : Type 0 where
  pub undoes : (bytes : List ℕ) (place : ℕ) → toggled (toggled bytes place) place ≡ bytes
  pub commutes : (bytes : List ℕ) (p q : ℕ) → toggled (toggled bytes p) q ≡ toggled (toggled bytes q) p
  pub keeps_length : (bytes : List ℕ) (place : ℕ) → length (toggled bytes place) ≡ length bytes
