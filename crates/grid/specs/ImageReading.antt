-- What an image says, read from its front.
use Rattle.std.specs.Prelude.{ℕ, zero, suc, ◌+◌, nat_lt, List, [], ◌∷◌, ◌++◌, take, drop, length, Option, Some, None, Result, Ok, Err, if◌then◌else◌}
use Rattle.grid.specs.Rows.{Row}
use Rattle.grid.specs.RowOrder.{RowKey}
use Rattle.grid.specs.Layout.{layout_said, wide, front, row_front}
use Rattle.grid.specs.ImageHeads.{head_key, head_said, shares_said}
use Rattle.grid.specs.declared.image_fields.RowHead.{RowHead}
use Rattle.grid.specs.declared.image_layout.Layout.{Layout}

-- the rows before an image's first fault, and the place of that fault, in bytes from 0
pub record RowsRead : Type 0 where
  pub rows : List Row
  pub fault : Option ℕ

-- no more rows
abbrev pub stopped : ℕ → RowsRead
stopped place = record { rows = []; fault = Some place }

-- more rows first
abbrev pub preceded : List Row → RowsRead → RowsRead
preceded first reading = record { rows = first ++ reading.rows; fault = reading.fault }

-- a share's row
abbrev pub said_row : RowHead → List ℕ → Row
said_row head bytes = (head.server, ((head.index, head.number), bytes))

-- One row, whose first bytes said this and whose own bytes stand in front of `body`, and then those after it. Its
-- first fault stands where its own bytes begin, where those are cut off.
abbrev pub with_row : Layout → Result RowHead ℕ → ℕ → List ℕ → (RowHead → RowsRead) → RowsRead
with_row layout (Err offset) place body next = stopped (place + offset)
with_row layout (Ok head) place body next =
    if nat_lt (length body) head.length then stopped (place + row_front layout)
    else preceded (said_row head (take head.length body) ∷ []) (next head)

-- so many rows, which stand at this place after a row of this key, and then the end
abbrev pub rows_said : Layout → ℕ → ℕ → Option RowKey → ℕ → List ℕ → RowsRead
rows_said layout zero servers last place [] = record { rows = []; fault = None }
rows_said layout zero servers last place (b ∷ bytes) = stopped place
rows_said layout (suc n) servers last place bytes =
    with_row layout (head_said layout servers last (take (row_front layout) bytes)) place (drop (row_front layout) bytes)
    (λ head. rows_said layout n servers (Some (head_key head)) (place + row_front layout + head.length) (drop head.length (drop (row_front layout) bytes)))

-- the rows, once the bytes before them said how many there are
abbrev pub from_said : Layout → Result ℕ ℕ → ℕ → List ℕ → RowsRead
from_said layout (Err place) servers bytes = stopped place
from_said layout (Ok count) servers bytes = rows_said layout count servers None (front layout) bytes

-- what the bytes behind an image's name say in this layout
abbrev pub said_in : Layout → ℕ → List ℕ → RowsRead
said_in layout servers bytes = from_said layout (shares_said layout servers (take (4 + wide layout) bytes)) servers (drop (4 + wide layout) bytes)

-- the same, once its first bytes said which layout it has
abbrev pub said_as : Option Layout → ℕ → List ℕ → RowsRead
said_as None servers bytes = stopped 0
said_as (Some layout) servers bytes = said_in layout servers bytes

-- what these bytes say as the image of a grid with so many servers, in the layout that their first 8 name
abbrev pub image_said : ℕ → List ℕ → RowsRead
image_said servers bytes = said_as (layout_said (take 8 bytes)) servers (drop 8 bytes)
