-- What images say of the rows that they are of.
use Rattle.std.specs.Prelude.{◌≡◌, ◌<◌, ◌^◌, ℕ, true, List, length, take, All, None}
use Rattle.share_store.specs.Shares.{Shares}
use Rattle.grid.specs.Rows.{Row, rows_of}
use Rattle.grid.specs.RowOrder.{in_order}
use Rattle.grid.specs.Layout.{name, count_limit}
use Rattle.grid.specs.Image.{image_in}
use Rattle.grid.specs.ImageReading.{image_said}
use Rattle.grid.specs.declared.image_layout.Layout.{Layout}

-- a row that an image of so many servers can hold in a layout
pub record IsInRange (layout : Layout) (servers : ℕ) (row : Row) : Type 0 where
  pub server : row.0 < servers
  pub index : length row.1.0.0 ≡ 16
  pub number : row.1.0.1 < 256
  pub some : 0 < length row.1.1
  pub short : length row.1.1 < count_limit layout

-- rows that an image of so many servers can hold in a layout
pub record CanBeWritten (layout : Layout) (servers : ℕ) (rows : List Row) : Type 0 where
  pub servers_fit : servers < 2 ^ 32
  pub few : length rows < count_limit layout
  pub in_range : All (IsInRange layout servers) rows
  pub ordered : in_order None rows ≡ true

-- these bytes are the image of these rows, in the layout that they name
pub record IsImage (servers : ℕ) (rows : List Row) (bytes : List ℕ) : Type 0 where
  pub layout : Layout
  pub named : take 8 bytes ≡ name layout
  pub whole : bytes ≡ image_in layout servers rows
  pub held : CanBeWritten layout servers rows

-- In each layout the image of rows is read as those rows, up to its end, and bytes that are read without a fault are
-- the image of what was read, in the layout that they name. As many stores with the same rows hold the same shares.
pub record ImageLaws : Type 0 where
  pub read_back : (layout : Layout) (servers : ℕ) (rows : List Row) → CanBeWritten layout servers rows → image_said servers (image_in layout servers rows) ≡ record { rows = rows; fault = None }
  pub exact : (servers : ℕ) (bytes : List ℕ) → All (λ b. b < 256) bytes → (image_said servers bytes).fault ≡ None → IsImage servers (image_said servers bytes).rows bytes
  pub told_by_rows : (ms ns : List Shares) → length ms ≡ length ns → rows_of ms ≡ rows_of ns → ms ≡ ns
