-- Numbers in decimal, without leading zeros.
use Rattle.std.specs.Prelude.{ℕ, List, length, slice_index, Bool, ◌&&◌, ◌||◌, not, nat_le, ◌==◌, if◌then◌else◌, Option, Some, None}
use Rattle.std.specs.Char.{is_ascii_digit}
use Rattle.std.specs.List.{list_all}
use Rattle.std.specs.Str.Parse.{digits_value}

-- digits, one or more, the first of which is no zero unless it stands alone
abbrev pub is_decimal : List ℕ → Bool
is_decimal text = list_all is_ascii_digit text && not (length text == 0) && ((length text == 1) || not (slice_index text 0 == 48))

-- the number that a text writes, if it is at most `most`
abbrev pub number_to : ℕ → List ℕ → Option ℕ
number_to most text = if is_decimal text && nat_le (digits_value 10 text) most then Some (digits_value 10 text) else None
