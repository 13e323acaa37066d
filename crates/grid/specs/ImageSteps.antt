-- What a step of a reading leaves of the image.
use Rattle.std.specs.Prelude.{◌≡◌, ◌<◌, ℕ, suc, ◌+◌, List, [], ◌∷◌, ◌++◌, length, Option, Some, None, slice_get, take, Result, OnOk, OnErr, IsErrOf}
use Rattle.std.specs.Io.KnownBytes.{IsAtEnd}
use Rattle.grid.specs.Rows.{Row}
use Rattle.grid.specs.RowOrder.{RowKey}
use Rattle.grid.specs.Layout.{row_front}
use Rattle.grid.specs.ImageHeads.{head_key}
use Rattle.grid.specs.ImageReading.{RowsRead, rows_said, preceded, said_row}
use Rattle.grid.specs.declared.fault.GridFault.{GridFault}
use Rattle.grid.specs.declared.fault.GridFault.TheVariants.{Full, BadImage}
use Rattle.grid.specs.declared.image_fields.RowHead.{RowHead}
use Rattle.grid.specs.declared.image_layout.Layout.{Layout}

-- the bytes say this row first, and the reader has those after it; for private clauses
pub record SaysRow (layout : Layout) (servers : ℕ) (last : Option RowKey) (place : ℕ) (bytes : List ℕ) (after : Option (List ℕ)) (head : RowHead) (own : List ℕ) : Type 0 where
  pub rest : List ℕ
  pub told : after ≡ Some rest
  pub says : (n : ℕ) → rows_said layout (suc n) servers last place bytes ≡ preceded (said_row head own ∷ []) (rows_said layout n servers (Some (head_key head)) (place + row_front layout + head.length) rest)

-- A row was refused: it is of this server, its share is longer than this room, and where the stores were empty and
-- honest (`good`) the rows before it are held.
pub record RefusesRow (rows : List Row) (server room : ℕ) (good : Type 0) (held : List Row) : Type 0 where
  pub place : ℕ
  pub row : Row
  pub at : slice_get rows place ≡ Some row
  pub here : row.0 ≡ server
  pub longer : room < length row.1.1
  pub before : good → held ≡ take place rows

-- these are the first of the rows
pub record AreFirst (first rows : List Row) : Type 0 where
  pub others : List Row
  pub joined : rows ≡ first ++ others

-- What came of reading what an image says, where the stores were empty and honest (`good`) and hold these rows now.
-- for private clauses
pub record Reads (said : RowsRead) (result : Result (Unit {0}) GridFault) (room : ℕ → ℕ) (good : Type 0) (held : List Row) (after : Option (List ℕ)) : Type 0 where
  pub no_fault : OnOk result (said.fault ≡ None)
  pub end : OnOk result (IsAtEnd after)
  pub rows : good → OnOk result (held ≡ said.rows)
  pub bad_image : (place : ℕ) → IsErrOf result (BadImage place) → (said.fault ≡ Some place) × (good → held ≡ said.rows)
  pub full : (server : ℕ) → IsErrOf result (Full server) → RefusesRow said.rows server (room server) good held
  pub err : good → OnErr result (AreFirst held said.rows)
