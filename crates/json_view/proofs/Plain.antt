-- Texts as JSON strings.
use Rattle.std.proofs.Common.{◌≡◌, ℕ, Bool, true, false, not, ◌&&◌, ◌==◌, nat_le, List, [], ◌∷◌, ◌++◌, refl, sym, ap, ◌∙◌, append_assoc, arith}
use Rattle.std.specs.List.{list_all}
use Rattle.std.proofs.lemmas.Bool.{and_parts, leb-true, ne_eqb, le-ltb}
use Rattle.std.proofs.lemmas.Grind.{flat_map-append}
use Rattle.serde_json.specs.Data.{Data, string}
use Rattle.serde_json.specs.Written.{has_float, compact_text}
use Rattle.json.specs.Print.{escape_byte, escape}
use Rattle.json_view.specs.Strings.{quoted, needs_no_escape}

pub not_true : (b : Bool) → not b ≡ true → b ≡ false
not_true true h = sym h
not_true false h = refl

-- such a byte stands for itself
plain_byte : (x : ℕ) → needs_no_escape x ≡ true → escape_byte x ≡ x ∷ []
unfolding escape_byte
plain_byte x plain =
    let whole = and_parts (nat_le 32 x && not (x == 34)) (not (x == 92)) plain in
    let first = and_parts (nat_le 32 x) (not (x == 34)) whole.0 in
    let low = leb-true 32 x first.0 in
    let quote = not_true (x == 34) first.1 in
    let slash = not_true (x == 92) whole.1 in
    rw (
      quote,
      slash,
      ne_eqb x 8 (λ e. omega (arith, low, e)),
      ne_eqb x 12 (λ e. omega (arith, low, e)),
      ne_eqb x 10 (λ e. omega (arith, low, e)),
      ne_eqb x 13 (λ e. omega (arith, low, e)),
      ne_eqb x 9 (λ e. omega (arith, low, e)),
      le-ltb x 32 low,
    ) refl

plain_text : (text : List ℕ) → list_all needs_no_escape text ≡ true → escape text ≡ text
plain_text [] plain = refl
plain_text (x ∷ text) plain =
    let both = and_parts (needs_no_escape x) (list_all needs_no_escape text) plain in
    ap (λ t. t ++ escape text) (plain_byte x both.0) ∙ ap (λ t. x ∷ t) (plain_text text both.1)

-- a text between quotes is a JSON string where each of its bytes stands for itself
pub plain_quoted : (text bytes : List ℕ) → list_all needs_no_escape text ≡ true → bytes ≡ text → 34 ∷ (bytes ++ 34 ∷ []) ≡ quoted text
unfolding quoted
plain_quoted text bytes plain is = ap (λ t. 34 ∷ (t ++ 34 ∷ [])) (is ∙ sym (plain_text text plain))

-- what is written for the value of a text
pub written_quoted : (d : Data) (text bytes written : List ℕ) → d ≡ string text → (has_float d ≡ false → bytes ≡ compact_text d) → written ≡ bytes → written ≡ quoted text
unfolding quoted
written_quoted d text bytes written is by same = same ∙ by (ap has_float is) ∙ ap compact_text is

pub plain_text_quoted : (text : List ℕ) → list_all needs_no_escape text ≡ true → quoted text ≡ 34 ∷ (text ++ 34 ∷ [])
plain_text_quoted text plain = sym (plain_quoted text text plain refl)

-- what stands for a text is what stands for its first part, and then for its second
pub joined_quoted : (first second : List ℕ) → quoted (first ++ second) ≡ 34 ∷ (escape first ++ (escape second ++ 34 ∷ []))
unfolding quoted
joined_quoted first second =
    ap (λ t. 34 ∷ (t ++ 34 ∷ [])) (flat_map-append escape_byte first second)
    ∙ ap (λ t. 34 ∷ t) (append_assoc (escape first) (escape second) (34 ∷ []))
