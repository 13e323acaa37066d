-- The two layouts of an image: what names them, and their numbers.
use Rattle.std.specs.Prelude.{ℕ, ◌+◌, ◌^◌, nat_eq, List, take, drop, Option, Some, None, codes, if◌then◌else◌}
use Rattle.std.specs.Int.{to_be_bytes, from_be_bytes, w32, w64}
use Rattle.std.specs.Cmp.Lexicographic.{pointwise}
use Rattle.grid.specs.declared.image_layout.Layout.{Layout}
use Rattle.grid.specs.declared.image_layout.Layout.TheVariants.{VersionOne, VersionTwo}

-- what stands first
abbrev pub name : Layout → List ℕ
name VersionOne = codes "TGRIDIM1"
name VersionTwo = codes "TGRIDIM2"

-- the layout that an image's first 8 bytes name
abbrev pub layout_said : List ℕ → Option Layout
layout_said bytes =
    if pointwise nat_eq bytes (name VersionOne) then Some VersionOne
    else if pointwise nat_eq bytes (name VersionTwo) then Some VersionTwo
    else None

-- how many bytes the number of shares has, and each share's length
abbrev pub wide : Layout → ℕ
wide VersionOne = 4
wide VersionTwo = 8

-- how many bytes stand before the shares
abbrev pub front : Layout → ℕ
front layout = 12 + wide layout

-- how many bytes stand before a share's own
abbrev pub row_front : Layout → ℕ
row_front layout = 24 + wide layout

-- a number in four bytes, the highest first
unfoldable pub be32 : ℕ → List ℕ
be32 n = to_be_bytes w32 n

-- a number in eight bytes, the highest first
unfoldable pub be64 : ℕ → List ℕ
be64 n = to_be_bytes w64 n

-- the number in the four bytes at a place, the highest first
unfoldable pub u32_at : List ℕ → ℕ → ℕ
u32_at bytes at = from_be_bytes w32 (take 4 (drop at bytes))

-- the number in the eight bytes at a place, the highest first
unfoldable pub long_number_at : List ℕ → ℕ → ℕ
long_number_at bytes at = from_be_bytes w64 (take 8 (drop at bytes))

-- the bytes of a number of shares, or of a length
abbrev pub count_bytes : Layout → ℕ → List ℕ
count_bytes VersionOne n = be32 n
count_bytes VersionTwo n = be64 n

-- a number of shares or a length, in the bytes at a place
abbrev pub count_at : Layout → List ℕ → ℕ → ℕ
count_at VersionOne bytes at = u32_at bytes at
count_at VersionTwo bytes at = long_number_at bytes at

-- numbers of shares and lengths are below this
abbrev pub count_limit : Layout → ℕ
count_limit VersionOne = 2 ^ 32
count_limit VersionTwo = 2 ^ 64
