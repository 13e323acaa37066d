-- What is written is read back.
use Rattle.std.proofs.Common.{◌≡◌, ℕ, ◌+◌, ◌*◌, ◌/◌, ◌%◌, ◌<◌, List, [], ◌∷◌, ◌++◌, Bool, true, false, cond, All, Some, None, refl, sym, ap, ◌∙◌, arith, eqb-true}
use Rattle.std.specs.Prelude.{◌==◌, ◌&&◌}
use Rattle.std.proofs.lemmas.List.Elements.{All-head, All-tail}
use Rattle.std.proofs.lemmas.Bool.Decides.{nat_tests}
use Rattle.gate_tasks.specs.Text.{is_hex, hex_value, hex_digit, followed_by, unescaped, after_backslash, is_printable, escape_of, escaped}

hex_is : (value : ℕ) → value < 16 → is_hex (hex_digit value) ≡ true
hex_is value small = grind (arith, nat_tests)

hex_back : (value : ℕ) → value < 16 → hex_value (hex_digit value) ≡ value
hex_back value small = grind (arith, nat_tests)

not_slash : (byte : ℕ) → is_printable byte ≡ true → (byte == 92) ≡ false
not_slash byte plain = grind (arith, nat_tests)

read_hex : (high low : ℕ) (rest : List ℕ) → high < 16 → low < 16 → unescaped (92 ∷ 120 ∷ hex_digit high ∷ hex_digit low ∷ rest) ≡ followed_by (16 * high + low) (unescaped rest)
read_hex high low rest h l =
    ap (λ t. cond (t && is_hex (hex_digit low)) (followed_by (16 * hex_value (hex_digit high) + hex_value (hex_digit low)) (unescaped rest)) None) (hex_is high h)
    ∙ ap (λ t. cond t (followed_by (16 * hex_value (hex_digit high) + hex_value (hex_digit low)) (unescaped rest)) None) (hex_is low l)
    ∙ ap (λ v. followed_by (16 * v + hex_value (hex_digit low)) (unescaped rest)) (hex_back high h)
    ∙ ap (λ v. followed_by (16 * high + v) (unescaped rest)) (hex_back low l)

read_other : (byte : ℕ) (rest : List ℕ) → byte < 256 → unescaped (92 ∷ 120 ∷ hex_digit (byte / 16) ∷ hex_digit (byte % 16) ∷ rest) ≡ followed_by byte (unescaped rest)
read_other byte rest small =
    let high : byte / 16 < 16 = omega arith in
    let low : byte % 16 < 16 = omega arith in
    let whole : 16 * (byte / 16) + byte % 16 ≡ byte = omega arith in
    read_hex (byte / 16) (byte % 16) rest high low ∙ ap (λ b. followed_by b (unescaped rest)) whole

-- the escape of a byte, by what the byte is
escape_by : Bool → Bool → Bool → Bool → ℕ → List ℕ
escape_by cr lf slash plain byte =
    cond cr (92 ∷ 114 ∷ []) (cond lf (92 ∷ 110 ∷ []) (cond slash (92 ∷ 92 ∷ []) (cond plain (byte ∷ []) (92 ∷ 120 ∷ hex_digit (byte / 16) ∷ hex_digit (byte % 16) ∷ []))))

read_by : (cr lf slash plain : Bool) (byte : ℕ) (rest : List ℕ) → byte < 256 → (byte == 13) ≡ cr → (byte == 10) ≡ lf → (byte == 92) ≡ slash → is_printable byte ≡ plain
    → unescaped (escape_by cr lf slash plain byte ++ rest) ≡ followed_by byte (unescaped rest)
unfolding escape_by
read_by true lf slash plain byte rest small is_cr is_lf is_slash is_p = ap (λ b. followed_by b (unescaped rest)) (sym (eqb-true byte 13 is_cr))
read_by false true slash plain byte rest small is_cr is_lf is_slash is_p = ap (λ b. followed_by b (unescaped rest)) (sym (eqb-true byte 10 is_lf))
read_by false false true plain byte rest small is_cr is_lf is_slash is_p = ap (λ b. followed_by b (unescaped rest)) (sym (eqb-true byte 92 is_slash))
read_by false false false true byte rest small is_cr is_lf is_slash is_p = ap (λ t. cond t (after_backslash rest) (followed_by byte (unescaped rest))) is_slash
read_by false false false false byte rest small is_cr is_lf is_slash is_p = read_other byte rest small

escape_read : (byte : ℕ) (rest : List ℕ) → byte < 256 → unescaped (escape_of byte ++ rest) ≡ followed_by byte (unescaped rest)
unfolding escape_by
escape_read byte rest small = read_by (byte == 13) (byte == 10) (byte == 92) (is_printable byte) byte rest small refl refl refl refl

pub read_back : (bytes : List ℕ) → All (λ b. b < 256) bytes → unescaped (escaped bytes) ≡ Some bytes
read_back [] small = refl
read_back (byte ∷ bytes) small =
    escape_read byte (escaped bytes) (All-head (λ b. b < 256) byte bytes small) ∙ ap (followed_by byte) (read_back bytes (All-tail (λ b. b < 256) byte bytes small))
