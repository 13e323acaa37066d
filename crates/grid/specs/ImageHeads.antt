-- The fields of an image that stand before the shares, and those before a share's bytes.
use Rattle.std.specs.Prelude.{ℕ, ◌+◌, not, ◌==◌, nat_lt, List, take, drop, length, Option, Result, Ok, Err, if◌then◌else◌}
use Rattle.grid.specs.Layout.{wide, row_front, u32_at, count_at}
use Rattle.grid.specs.RowOrder.{RowKey, comes_after}
use Rattle.grid.specs.declared.image_fields.RowHead.{RowHead}
use Rattle.grid.specs.declared.image_layout.Layout.{Layout}

abbrev pub head_key : RowHead → RowKey
head_key head = (head.server, (head.index, head.number))

-- How many shares an image says that it has, or the place of its first fault, where these are the bytes between its
-- name and its shares or all that there are. The number of servers has to be the grid's.
abbrev pub shares_said : Layout → ℕ → List ℕ → Result ℕ ℕ
shares_said layout servers bytes =
    if nat_lt (length bytes) 4 then Err 8
    else if not (u32_at bytes 0 == servers) then Err 8
    else if nat_lt (length bytes) (4 + wide layout) then Err 12
    else Ok (count_at layout bytes 4)

-- What stands before a share's bytes, or the place there of the first fault, where these are the bytes before its own
-- or all that there are: a field that is cut off, a server that there is none of, a share that doesn't come after the
-- one before it (named by its server), a number above 255, a length of 0.
abbrev pub head_said : Layout → ℕ → Option RowKey → List ℕ → Result RowHead ℕ
head_said layout servers last bytes =
    if nat_lt (length bytes) 4 then Err 0
    else if not (nat_lt (u32_at bytes 0) servers) then Err 0
    else if nat_lt (length bytes) 20 then Err 4
    else if nat_lt (length bytes) 24 then Err 20
    else if not (comes_after last (u32_at bytes 0, (take 16 (drop 4 bytes), u32_at bytes 20))) then Err 0
    else if not (nat_lt (u32_at bytes 20) 256) then Err 20
    else if nat_lt (length bytes) (row_front layout) then Err 24
    else if count_at layout bytes 24 == 0 then Err 24
    else Ok (record { server = u32_at bytes 0; index = take 16 (drop 4 bytes); number = u32_at bytes 20; length = count_at layout bytes 24 })
