-- Lines that are told on standard error.
use Rattle.std.specs.Prelude.{ℕ, ◌≤◌, Bool, List, length, codes, nat_le, nat_eq, not, ◌&&◌}
use Rattle.std.specs.Str.Pattern.{LacksTextAt}

-- with what each cap's text begins
abbrev pub cap_mark : List ℕ
cap_mark = codes "URI:"

-- it stands nowhere in the text
abbrev pub HasNoMark : List ℕ → Type 0
HasNoMark text = (i : ℕ) → i ≤ length text → LacksTextAt cap_mark text i

-- a byte that is no control character of ASCII
abbrev pub is_plain_byte : ℕ → Bool
is_plain_byte byte = nat_le 32 byte && not (nat_eq byte 127)
