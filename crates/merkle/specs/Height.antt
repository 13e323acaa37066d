-- How high a tree of so many leaves is.
use Rattle.std.specs.Prelude.{ℕ, zero, suc, ◌+◌, ◌^◌, nat_lt, if◌then◌else◌}

-- the least height h at which they are at most 2 ^ h: with one leaf more the tree is one higher, where
-- they do not fit any longer
unfoldable pub height : ℕ → ℕ
height zero = 0
height (suc count) = if nat_lt (2 ^ height count) (suc count) then height count + 1 else height count
