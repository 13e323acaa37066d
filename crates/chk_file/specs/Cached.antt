-- Files that were read and are kept.
use Rattle.std.specs.Prelude.{◌≡◌, ◌≢◌, ◌⊎◌, ◌≤◌, ℕ, List, Some, Contains}
use Rattle.grid.specs.Stamps.{last_count}
use Rattle.grid.specs.GridState.{GridState, stood, raised_at, IsHonest}
use Rattle.caps.specs.Fields.{ReadValue}
use Rattle.caps.specs.StorageIndex.{index_of}
use Rattle.chk_file.specs.Tables.{table_of}
use Rattle.file_shares.specs.Fit.{fit}
use Rattle.file_shares.specs.Bound.{Bound}

-- the fields of a file, the stamp of its storage index when it was read, and its bytes
abbrev pub CacheEntry : Type 0
CacheEntry = ReadValue × (ℕ × List ℕ)

-- each entry's bytes are bound to its fields
abbrev pub AreBound : List CacheEntry → Type 0
AreBound entries = (fields : ReadValue) (stamp : ℕ) (bytes : List ℕ) → Contains entries (fields, (stamp, bytes)) → Bound fields bytes

-- each entry of the new list stands in the old one; for private clauses
abbrev pub IsWithin : List CacheEntry → List CacheEntry → Type 0
IsWithin old new = (entry : CacheEntry) → Contains new entry → Contains old entry

-- each entry of the new list stands in the old one, or is the one that was put; for private clauses
abbrev pub IsWithinOr : List CacheEntry → List CacheEntry → CacheEntry → Type 0
IsWithinOr old new put = (entry : CacheEntry) → Contains new entry → Contains old entry ⊎ (entry ≡ put)

-- The entry's stamp is not above that of its storage index. Over honest stores, where it is the same, and 64 bits still
-- count it, the entry has the bytes that verification finds.
pub record IsCurrent (grid : GridState) (entry : CacheEntry) : Type 0 where
  pub low : entry.1.0 ≤ raised_at grid (index_of entry.0.key)
  pub counts : IsHonest grid → raised_at grid (index_of entry.0.key) ≡ entry.1.0 → entry.1.0 ≢ last_count →
      fit (table_of (stood grid) (index_of entry.0.key)) entry.0 ≡ Some entry.1.1

-- each entry is
abbrev pub IsCacheCurrent : List CacheEntry → GridState → Type 0
IsCacheCurrent cache grid = (entry : CacheEntry) → Contains cache entry → IsCurrent grid entry
