-- Why an image has its first fault where it has it.
use Rattle.std.specs.Prelude.{◌≡◌, ◌≢◌, ◌<◌, ◌≤◌, ◌+◌, ℕ, false, true, List, [], ◌∷◌, ◌++◌, take, drop, length, All, Option, Some, None}
use Rattle.std.specs.List.{flat_map}
use Rattle.grid.specs.Rows.{Row}
use Rattle.grid.specs.RowOrder.{RowKey, row_key, comes_after, in_order}
use Rattle.grid.specs.Layout.{name, front, row_front, u32_at, count_at}
use Rattle.grid.specs.Image.{image_head, row_bytes}
use Rattle.grid.specs.ImageLaws.{IsInRange}
use Rattle.grid.specs.ImageReading.{image_said}
use Rattle.grid.specs.declared.image_layout.Layout.{Layout}

-- What is wrong before the shares, at this place: the fields before it are whole and good.
pub data FrontFault (servers : ℕ) (bytes : List ℕ) (place : ℕ) : Type 0 where
  other_name : place ≡ 0 → ((layout : Layout) → take 8 bytes ≢ name layout) → FrontFault servers bytes place
  servers_cut : (layout : Layout) → place ≡ 8 → take 8 bytes ≡ name layout → length bytes < 12 → FrontFault servers bytes place
  other_servers : (layout : Layout) → place ≡ 8 → take 8 bytes ≡ name layout → 12 ≤ length bytes → u32_at bytes 8 ≢ servers → FrontFault servers bytes place
  shares_cut : (layout : Layout) → place ≡ 12 → take 8 bytes ≡ name layout → 12 ≤ length bytes → u32_at bytes 8 ≡ servers → length bytes < front layout → FrontFault servers bytes place

-- the place of a share in the order, by the bytes before its own
abbrev pub key_at : List ℕ → RowKey
key_at bytes = (u32_at bytes 0, (take 16 (drop 4 bytes), u32_at bytes 20))

-- the fields of a share up to its number are whole, there is such a server, and it comes after the share before it
pub record IsPlaced (servers : ℕ) (last : Option RowKey) (bytes : List ℕ) : Type 0 where
  pub whole : 24 ≤ length bytes
  pub server : u32_at bytes 0 < servers
  pub after : comes_after last (key_at bytes) ≡ true

-- What is wrong with the bytes before a share's own, at this offset: the fields before it are whole and good. A share
-- out of order is named by its server.
pub data HeadFault (layout : Layout) (servers : ℕ) (last : Option RowKey) (bytes : List ℕ) (offset : ℕ) : Type 0 where
  server_cut : offset ≡ 0 → length bytes < 4 → HeadFault layout servers last bytes offset
  no_server : offset ≡ 0 → 4 ≤ length bytes → servers ≤ u32_at bytes 0 → HeadFault layout servers last bytes offset
  index_cut : offset ≡ 4 → 4 ≤ length bytes → u32_at bytes 0 < servers → length bytes < 20 → HeadFault layout servers last bytes offset
  number_cut : offset ≡ 20 → 20 ≤ length bytes → u32_at bytes 0 < servers → length bytes < 24 → HeadFault layout servers last bytes offset
  out_of_order : offset ≡ 0 → 24 ≤ length bytes → u32_at bytes 0 < servers → comes_after last (key_at bytes) ≡ false → HeadFault layout servers last bytes offset
  high_number : offset ≡ 20 → IsPlaced servers last bytes → 256 ≤ u32_at bytes 20 → HeadFault layout servers last bytes offset
  length_cut : offset ≡ 24 → IsPlaced servers last bytes → u32_at bytes 20 < 256 → length bytes < row_front layout → HeadFault layout servers last bytes offset
  no_bytes : offset ≡ 24 → IsPlaced servers last bytes → u32_at bytes 20 < 256 → row_front layout ≤ length bytes → count_at layout bytes 24 ≡ 0 → HeadFault layout servers last bytes offset

-- the key of the last of these rows, which stand after a row of this key
abbrev pub last_key : Option RowKey → List Row → Option RowKey
last_key last [] = last
last_key last (row ∷ rows) = last_key (Some (row_key row)) rows

-- these rows stand in front of these bytes, in range and in order after a row of this key, and then the rest
pub record BeginsWithRows (layout : Layout) (servers : ℕ) (last : Option RowKey) (rows : List Row) (rest bytes : List ℕ) : Type 0 where
  pub joined : bytes ≡ flat_map (row_bytes layout) rows ++ rest
  pub in_range : All (IsInRange layout servers) rows
  pub ordered : in_order last rows ≡ true

-- What is wrong after these rows of so many, at this place of these bytes: the next row's fields, its own bytes, which
-- are cut off, or that bytes stand after the last row.
pub data RestFault (layout : Layout) (count servers : ℕ) (last : Option RowKey) (rows : List Row) (rest : List ℕ) (place : ℕ) : Type 0 where
  bad_head : (offset : ℕ) → place ≡ length (flat_map (row_bytes layout) rows) + offset → length rows < count → HeadFault layout servers (last_key last rows) (take (row_front layout) rest) offset → RestFault layout count servers last rows rest place
  cut_share : place ≡ length (flat_map (row_bytes layout) rows) + row_front layout → length rows < count → IsPlaced servers (last_key last rows) (take (row_front layout) rest) → u32_at (take (row_front layout) rest) 20 < 256 → row_front layout ≤ length rest
      → length rest < row_front layout + count_at layout (take (row_front layout) rest) 24 → RestFault layout count servers last rows rest place
  too_many : place ≡ length (flat_map (row_bytes layout) rows) → length rows ≡ count → 0 < length rest → RestFault layout count servers last rows rest place

-- what is wrong with an image at this place, where these rows stand before it
pub data ImageFault (servers : ℕ) (bytes : List ℕ) (rows : List Row) (place : ℕ) : Type 0 where
  bad_front : FrontFault servers bytes place → rows ≡ [] → ImageFault servers bytes rows place
  bad_rest : (layout : Layout) (count at : ℕ) (body rest : List ℕ) → bytes ≡ image_head layout servers count ++ body → place ≡ front layout + at → BeginsWithRows layout servers None rows rest body → RestFault layout count servers None rows rest at → ImageFault servers bytes rows place

-- an image that is read with a fault has something wrong there, and what was read stands before it
pub record FaultLaws : Type 0 where
  pub first_fault : (servers : ℕ) (bytes : List ℕ) (place : ℕ) → All (λ b. b < 256) bytes → (image_said servers bytes).fault ≡ Some place → ImageFault servers bytes (image_said servers bytes).rows place
