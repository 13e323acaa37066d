-- What the value of a Range field asks for (RFC 9110, sections 14.1.2 and 14.2).
use Rattle.std.specs.Prelude.{ℕ, ◌+◌, ◌^◌, ◌&&◌, not, ◌==◌, List, length, take, drop, min, if◌then◌else◌, Option, Some, None, option_map, option_and_then, position, codes}
use Rattle.std.specs.List.{list_all}
use Rattle.std.specs.Char.{is_ascii_digit}
use Rattle.std.specs.Str.Parse.{digits_value}
use Rattle.httparse.specs.Grammar.{trim_ows}
use Rattle.octets.specs.Case.{eq_ignore_case}

-- the places from `first` to `last`, those from `first` on, or the last `count`
pub data Asked : Type 0 where
  FromTo : ℕ → ℕ → Asked
  From : ℕ → Asked
  Last : ℕ → Asked

-- the one number that stands for each of 2^64 and more; it is greater than every size
abbrev pub past : ℕ
past = 2 ^ 64

-- the number that one or more digits write, none for any other text
abbrev pub digits_number : List ℕ → Option ℕ
digits_number text =
    if not (length text == 0) && list_all is_ascii_digit text then Some (min (digits_value 10 text) past) else None

abbrev pub from_to : Option ℕ → Option ℕ → Option Asked
from_to (Some first) (Some last) = Some (FromTo first last)
from_to (Some first) None = None
from_to None last = None

-- `first-last`, `first-` or `-count`
abbrev pub asked_by : List ℕ → List ℕ → Option Asked
asked_by first last =
    if length first == 0 then option_map Last (digits_number last)
    else (if length last == 0 then option_map From (digits_number first)
    else from_to (digits_number first) (digits_number last))

-- what stands before and after the first `-`
abbrev pub asked_at : List ℕ → Option ℕ → Option Asked
asked_at set None = None
asked_at set (Some place) = asked_by (take place set) (drop (place + 1) set)

abbrev pub asked_of_set : List ℕ → Option Asked
asked_of_set set = asked_at set (position (λ b. b == 45) set)

-- what follows the unit, where the unit is `bytes`, in any case
abbrev pub set_of : List ℕ → Option (List ℕ)
set_of value = if eq_ignore_case (take 6 value) (codes "bytes=") then Some (drop 6 value) else None

-- what a value asks for: one range of bytes, or none that is known
unfoldable pub asked : List ℕ → Option Asked
asked text = option_and_then asked_of_set (set_of (trim_ows text))
