-- The alphabet of RFC 4648, section 6, in lower case: `a` to `z` stand for 0 to 25, `2` to `7` for 26 to 31.
use Rattle.std.specs.Prelude.{ℕ, ◌+◌, ◌-◌, Bool, ◌&&◌, ◌||◌, nat_le, nat_lt, if◌then◌else◌}

abbrev pub is_letter : ℕ → Bool
is_letter byte = (nat_le 97 byte && nat_le byte 122) || (nat_le 50 byte && nat_le byte 55)

-- what a letter stands for
abbrev pub value_of : ℕ → ℕ
value_of byte = if nat_le 97 byte then byte - 97 else byte - 24

-- the letter that stands for a value below 32
abbrev pub letter_of : ℕ → ℕ
letter_of value = if nat_lt value 26 then 97 + value else 24 + value
