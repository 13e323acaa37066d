-- Names that were looked up in directories.
use Rattle.std.specs.Prelude.{◌≡◌, ℕ, List, Some, Contains}
use Rattle.grid.specs.GridState.{GridState, stood, raised_at, IsHonest}
use Rattle.caps.specs.Fields.{ReadValue}
use Rattle.caps.specs.StorageIndex.{index_of}
use Rattle.dir_codec.specs.declared.finder.Sought.{Sought}
use Rattle.dir_codec.specs.Sought.{sought_in}
use Rattle.chk_file.specs.Tables.{table_of}
use Rattle.file_shares.specs.Fit.{fit}
use Rattle.file_shares.specs.Bound.{Bound}
use Rattle.chk_file.specs.Cached.{CacheEntry, IsCacheCurrent}

-- What is known of a name that was looked up in a directory: it is of bytes that the cache has with the present stamp, which are bound to its
-- fields, and over honest stores, where the cache is current, of those that verification finds.
pub record IsSought (cache : List CacheEntry) (grid : GridState) (f : ReadValue) (name : List ℕ) (sought : Sought) : Type 0 where
  pub bytes : List ℕ
  pub kept : Contains cache (f, (raised_at grid (index_of f.key), bytes))
  pub bound : Bound f bytes
  pub fit : IsCacheCurrent cache grid → IsHonest grid → fit (table_of (stood grid) (index_of f.key)) f ≡ Some bytes
  pub is : sought ≡ sought_in name bytes
