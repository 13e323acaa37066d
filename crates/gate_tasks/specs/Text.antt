-- TEXT in a script: printable bytes stand for themselves, a backslash begins an escape.
use Rattle.std.specs.Prelude.{◌≡◌, ℕ, ◌+◌, ◌-◌, ◌*◌, ◌/◌, ◌%◌, List, [], ◌∷◌, ◌++◌, Bool, true, false, ◌&&◌, ◌||◌, not, nat_le, nat_lt, ◌==◌, All, if◌then◌else◌, Option, Some, None}
use Rattle.std.specs.Option.{option_map}
use Rattle.std.specs.List.{flat_map}

-- the digits of base 16, in lower case; for private clauses
abbrev pub is_hex : ℕ → Bool
is_hex digit = (nat_le 48 digit && nat_le digit 57) || (nat_le 97 digit && nat_le digit 102)

-- what a digit stands for; for private clauses
abbrev pub hex_value : ℕ → ℕ
hex_value digit = if nat_le digit 57 then digit - 48 else digit - 87

-- the digit of a number below 16
abbrev pub hex_digit : ℕ → ℕ
hex_digit value = if nat_lt value 10 then value + 48 else value + 87

-- for private clauses
abbrev pub followed_by : ℕ → Option (List ℕ) → Option (List ℕ)
followed_by byte more = option_map (λ bytes. byte ∷ bytes) more

abbrev mutual
  -- the bytes for which a text stands, or none where a backslash begins no escape
  pub unescaped : List ℕ → Option (List ℕ)
  unescaped [] = Some []
  unescaped (byte ∷ text) = if byte == 92 then after_backslash text else followed_by byte (unescaped text)

  -- after a backslash: `r`, `n`, a backslash, or `x` and two digits
  pub after_backslash : List ℕ → Option (List ℕ)
  after_backslash [] = None
  after_backslash (kind ∷ text) =
      if kind == 114 then followed_by 13 (unescaped text)
      else (if kind == 110 then followed_by 10 (unescaped text)
      else (if kind == 92 then followed_by 92 (unescaped text)
      else (if kind == 120 then after_x text else None)))

  pub after_x : List ℕ → Option (List ℕ)
  after_x [] = None
  after_x (high ∷ []) = None
  after_x (high ∷ low ∷ text) =
      if is_hex high && is_hex low then followed_by (16 * hex_value high + hex_value low) (unescaped text) else None

-- bytes that stand for themselves where a text is written: 32 to 126, but the backslash
abbrev pub is_printable : ℕ → Bool
is_printable byte = nat_le 32 byte && nat_le byte 126 && not (byte == 92)

-- how a byte is written
abbrev pub escape_of : ℕ → List ℕ
escape_of byte =
    if byte == 13 then 92 ∷ 114 ∷ []
    else (if byte == 10 then 92 ∷ 110 ∷ []
    else (if byte == 92 then 92 ∷ 92 ∷ []
    else (if is_printable byte then byte ∷ [] else 92 ∷ 120 ∷ hex_digit (byte / 16) ∷ hex_digit (byte % 16) ∷ [])))

-- the text in which bytes are written
abbrev pub escaped : List ℕ → List ℕ
escaped bytes = flat_map escape_of bytes

-- cut at the first byte that fails a test; for private clauses
pub record IsCutWhere (test : ℕ → Bool) (whole front : List ℕ) (byte : ℕ) (back : List ℕ) : Type 0 where
  pub parts : whole ≡ front ++ byte ∷ back
  pub before : All (λ b. test b ≡ true) front
  pub fails : test byte ≡ false
