-- The image of a grid, as bytes.
use Rattle.std.specs.Prelude.{ℕ, ◌+◌, ◌^◌, nat_lt, List, [], ◌∷◌, ◌++◌, length, Option, Some, None, if◌then◌else◌}
use Rattle.std.specs.List.{flat_map}
use Rattle.grid.specs.Rows.{Row}
use Rattle.grid.specs.Layout.{name, be32, count_bytes, front, row_front}
use Rattle.grid.specs.declared.image_layout.Layout.{Layout}
use Rattle.grid.specs.declared.image_layout.Layout.TheVariants.{VersionTwo}

-- what stands at the front: the layout's name, how many servers there are, and how many shares
abbrev pub image_head : Layout → ℕ → ℕ → List ℕ
image_head layout servers shares = name layout ++ be32 servers ++ count_bytes layout shares

-- what stands before a share's bytes: server, storage index, number and length
abbrev pub row_head : Layout → Row → List ℕ
row_head layout row = be32 row.0 ++ row.1.0.0 ++ be32 row.1.0.1 ++ count_bytes layout (length row.1.1)

abbrev pub row_bytes : Layout → Row → List ℕ
row_bytes layout row = row_head layout row ++ row.1.1

-- the image of a grid with so many servers and these rows, in a layout
abbrev pub image_in : Layout → ℕ → List Row → List ℕ
image_in layout servers rows = image_head layout servers (length rows) ++ flat_map (row_bytes layout) rows

-- the image as it is written
abbrev pub image : ℕ → List Row → List ℕ
image servers rows = image_in VersionTwo servers rows

-- the first share number of these rows that is above 255, where the first of them stands at this place
abbrev pub refused_field : ℕ → List Row → Option ℕ
refused_field place [] = None
refused_field place (row ∷ rows) =
    if nat_lt row.1.0.1 256 then refused_field (place + row_front VersionTwo + length row.1.1) rows else Some (place + 20)

-- The place of the first field that the image of these rows can't hold as it is written: the number of shares has 64
-- bits, and a share's number is below 256.
abbrev pub refused_place : List Row → Option ℕ
refused_place rows = if nat_lt (length rows) (2 ^ 64) then refused_field (front VersionTwo) rows else Some 12
