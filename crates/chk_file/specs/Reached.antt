-- What is reached of a storage index where some stores fail.
use Rattle.std.specs.Prelude.{◌≡◌, ◌<◌, ◌≤◌, ◌⊎◌, ℕ, List, None}
use Rattle.grid.specs.GridState.{GridState, stood, failures_at, NoneFailed}
use Rattle.grid.specs.Standing.{Standing}
use Rattle.file_shares.specs.Row.{ShareTable}
use Rattle.chk_file.specs.Tables.{table_of}

-- all that stands under the index, but for some shares at servers whose store failed in between
pub record IsReachedIn (stands : Standing) (old new : GridState) (index : List ℕ) (row : ShareTable) : Type 0 where
  pub each : (server number : ℕ) → (row server number ≡ table_of stands index server number) ⊎ ((failures_at old server < failures_at new server) × (row server number ≡ None))

-- this is said of a row that was reached of what stands
pub record OfReachedIn (stands : Standing) (old new : GridState) (index : List ℕ) (Says : ShareTable → Type 0) : Type 0 where
  pub row : ShareTable
  pub reached : IsReachedIn stands old new index row
  pub says : Says row

-- the same of what stood before the call
abbrev pub IsReached : GridState → GridState → List ℕ → ShareTable → Type 0
IsReached old new index row = IsReachedIn (stood old) old new index row

abbrev pub OfReached : GridState → GridState → List ℕ → (ShareTable → Type 0) → Type 0
OfReached old new index Says = OfReachedIn (stood old) old new index Says

-- Where no store failed what was reached is all that stands. What was reached in one of several calls, where the same
-- stood before it as before the first, was reached in all of them together.
pub record ReachedLaws : Type 0 where
  pub all : (old new : GridState) (index : List ℕ) (row : ShareTable) → NoneFailed old new → IsReached old new index row → row ≡ table_of (stood old) index
  pub together : (first old new last : GridState) (index : List ℕ) (row : ShareTable) → table_of (stood old) index ≡ table_of (stood first) index
      → ((s : ℕ) → failures_at first s ≤ failures_at old s) → ((s : ℕ) → failures_at new s ≤ failures_at last s) → IsReached old new index row → IsReached first last index row
