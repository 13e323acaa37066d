-- Sizes in bytes, as they are written: digits, and behind them the letter of a unit if there is one.
use Rattle.std.specs.Prelude.{ℕ, ◌*◌, ◌^◌, ◌-◌, ◌==◌, nat_lt, if◌then◌else◌, List, length, take, slice_index, Option, Some, None, option_and_then}
use Rattle.std.specs.Option.{option_map_or}
use Rattle.octets.specs.Decimal.{number_to}

-- a unit by its letter: K is 1,024 bytes, and M, G and T are each 1,024 times the one before
abbrev pub bytes_of_unit : ℕ → Option ℕ
bytes_of_unit letter =
    if letter == 75 then Some 1024
    else if letter == 77 then Some (1024 ^ 2)
    else if letter == 71 then Some (1024 ^ 3)
    else if letter == 84 then Some (1024 ^ 4)
    else None

-- a number, if 64 bits have it
abbrev pub within_64_bits : ℕ → Option ℕ
within_64_bits n = if nat_lt n (2 ^ 64) then Some n else None

-- as many units as these digits say
abbrev pub size_in : ℕ → List ℕ → Option ℕ
size_in unit digits = option_and_then (λ n. within_64_bits (n * unit)) (number_to (2 ^ 64 - 1) digits)

-- the bytes that a text says, if it says any: without a unit they are bytes
abbrev pub written_size : List ℕ → Option ℕ
written_size text =
    option_map_or (λ unit. size_in unit (take (length text - 1) text)) (bytes_of_unit (slice_index text (length text - 1)))
    (size_in 1 text)
