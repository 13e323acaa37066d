-- What it is to read a netstring at a place: the span of its bytes and the place after its comma, or
-- the first fault from left to right.
use Rattle.std.specs.Prelude.{ℕ, ◌+◌, ◌^◌, List, length, take, drop, slice_index, nat_lt, ◌-◌, ◌==◌, ◌&&◌, if◌then◌else◌}
use Rattle.std.specs.declared.result.Result.{Result}
use Rattle.std.specs.declared.result.Result.TheVariants.{Ok, Err}
use Rattle.std.specs.List.{prefix_len}
use Rattle.std.specs.Char.{is_ascii_digit}
use Rattle.std.specs.Str.Parse.{digits_value}
use Rattle.tag_hash.specs.declared.netstrings.Span.{Span}
use Rattle.tag_hash.specs.declared.netstrings.NetFault.{NetFault}
use Rattle.tag_hash.specs.declared.netstrings.NetFault.TheVariants.{NotDigits, LeadingZero, Short, NoComma, TooLong}

-- the bytes of a span
abbrev pub span_bytes : Span → List ℕ → List ℕ
span_bytes span bytes = take span.len (drop span.start bytes)

-- how many digits a text begins with, and the number that they write
abbrev pub digit_count : List ℕ → ℕ
digit_count text = prefix_len is_ascii_digit text

abbrev pub first_value : List ℕ → ℕ
first_value text = digits_value 10 (take (digit_count text) text)

-- the number of bytes that a text announces: one of 64 bits, without leading zeros
unfoldable pub announced : List ℕ → Result ℕ NetFault
announced text =
    if length text == 0 then Err Short
    else (if digit_count text == 0 then Err NotDigits
    else (if slice_index text 0 == 48 && nat_lt 1 (digit_count text) then Err LeadingZero
    else (if nat_lt (first_value text) (2 ^ 64) then Ok (first_value text) else Err TooLong)))

-- the span of so many bytes after a colon, if a comma closes them; `start` is the place after the colon
abbrev pub closed : List ℕ → ℕ → Result ℕ NetFault → Result (Span × ℕ) NetFault
closed bytes start (Err fault) = Err fault
closed bytes start (Ok size) =
    if slice_index bytes (start - 1) == 58 && nat_lt (start + size) (length bytes)
    then (if slice_index bytes (start + size) == 44
    then Ok (record { start = start; len = size }, start + size + 1)
    else Err NoComma)
    else Err Short

unfoldable pub netstring_at : List ℕ → ℕ → Result (Span × ℕ) NetFault
netstring_at bytes at = closed bytes (at + digit_count (drop at bytes) + 1) (announced (drop at bytes))
