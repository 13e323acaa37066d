-- What is found in what a call sees of stores that others change.
use Rattle.std.specs.Prelude.{◌≡◌, ◌⊎◌, ℕ, List, Some, Contains}
use Rattle.grid.specs.Standing.{standing}
use Rattle.grid.specs.GridState.{GridState, raised_at}
use Rattle.grid.specs.Views.{Sees}
use Rattle.caps.specs.Fields.{ReadValue}
use Rattle.caps.specs.StorageIndex.{index_of}
use Rattle.file_shares.specs.Row.{ShareTable}
use Rattle.chk_file.specs.Tables.{table_of}
use Rattle.chk_file.specs.Reached.{OfReachedIn}
use Rattle.file_shares.specs.Fit.{fit}
use Rattle.chk_file.specs.Cached.{CacheEntry}

-- this is said of a row that was reached of what the call saw
abbrev pub SeesReached : GridState → GridState → List ℕ → (ShareTable → Type 0) → Type 0
SeesReached old new index Says = Sees old new (λ views. OfReachedIn (standing views) old new index Says)

-- the bytes are kept with the present stamp of their index, or are what verification finds in a row that was reached of
-- what the call saw
abbrev pub IsKeptOrSeen : List CacheEntry → GridState → GridState → ReadValue → List ℕ → Type 0
IsKeptOrSeen cache old new f bytes = Contains cache (f, (raised_at old (index_of f.key), bytes)) ⊎ SeesReached old new (index_of f.key) (λ row. fit row f ≡ Some bytes)

-- each entry of the new list stands in the old one, or has the bytes that verification finds in what the call saw
abbrev pub AreKeptSeen : List CacheEntry → List CacheEntry → GridState → GridState → Type 0
AreKeptSeen cache kept old new =
    (entry : CacheEntry) → Contains kept entry → Contains cache entry ⊎ Sees old new (λ views. fit (table_of (standing views) (index_of entry.0.key)) entry.0 ≡ Some entry.1.1)
