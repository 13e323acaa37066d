-- Texts in which each byte stands for itself as JSON strings.
use Rattle.std.proofs.Common.{◌≡◌, ℕ, ◌≤◌, Bool, true, false, not, ◌||◌, ◌==◌, nat_lt, List, [], ◌∷◌, ◌++◌, refl, sym, ap, ◌∙◌, append_assoc, arith}
use Rattle.std.specs.List.{list_all}
use Rattle.std.specs.Str.{IsUtf8}
use Rattle.std.proofs.lemmas.Bool.{and_parts, eqb-false}
use Rattle.std.proofs.lemmas.Str.{IsUtf8-append}
use Rattle.json.specs.Print.{escape_byte, escape, quoted}
use Rattle.json.specs.Run.{is_plain}
use Rattle.json.proofs.Printed.Strings.{escape_byte_plain}
use Rattle.json.proofs.Printed.Utf8.{IsUtf8-are_ascii}

neither : (a b c : Bool) → not (a || b || c) ≡ true → (a ≡ false) × (b ≡ false) × (c ≡ false)
neither false false false is = (refl, refl, refl)
neither false false true is = absurd cc
neither false true c is = absurd cc
neither true b c is = absurd cc

high : (x : ℕ) → nat_lt x 32 ≡ false → 32 ≤ x
high x is = grind arith

plain_byte : (x : ℕ) → is_plain x ≡ true → escape_byte x ≡ x ∷ []
plain_byte x plain =
    let parts = neither (x == 34) (x == 92) (nat_lt x 32) plain in
    escape_byte_plain x (eqb-false x 34 parts.0) (eqb-false x 92 parts.1) (high x parts.2)

plain_text : (text : List ℕ) → list_all is_plain text ≡ true → escape text ≡ text
plain_text [] plain = refl
plain_text (x ∷ text) plain =
    let both = and_parts (is_plain x) (list_all is_plain text) plain in
    ap (λ t. t ++ escape text) (plain_byte x both.0) ∙ ap (λ t. x ∷ t) (plain_text text both.1)

pub plain_quoted : (text : List ℕ) → list_all is_plain text ≡ true → quoted text ≡ 34 ∷ (text ++ 34 ∷ [])
plain_quoted text plain = ap (λ t. 34 ∷ (t ++ 34 ∷ [])) (plain_text text plain)

pub key_utf8 : (name : List ℕ) → IsUtf8 (quoted name) → IsUtf8 (quoted name ++ 58 ∷ [])
key_utf8 name utf8 = IsUtf8-append (quoted name) (58 ∷ []) utf8 (IsUtf8-are_ascii (58 ∷ []) refl)

-- what is written of a key, and of a text, piece by piece
pub key_written : (out pushed named new name : List ℕ) → list_all is_plain name ≡ true → pushed ≡ out ++ 34 ∷ [] → named ≡ pushed ++ name → new ≡ named ++ 34 ∷ 58 ∷ [] → new ≡ out ++ (quoted name ++ 58 ∷ [])
key_written out pushed named new name plain first second third =
    third
    ∙ ap (λ s. s ++ 34 ∷ 58 ∷ []) (second ∙ ap (λ s. s ++ name) first)
    ∙ append_assoc (out ++ 34 ∷ []) name (34 ∷ 58 ∷ [])
    ∙ append_assoc out (34 ∷ []) (name ++ 34 ∷ 58 ∷ [])
    ∙ ap (λ s. out ++ 34 ∷ s) (sym (append_assoc name (34 ∷ []) (58 ∷ [])))
    ∙ ap (λ s. out ++ (s ++ 58 ∷ [])) (sym (plain_quoted name plain))

pub text_written : (out pushed put new text : List ℕ) → list_all is_plain text ≡ true → pushed ≡ out ++ 34 ∷ [] → put ≡ pushed ++ text → new ≡ put ++ 34 ∷ [] → new ≡ out ++ quoted text
text_written out pushed put new text plain first second third =
    third
    ∙ ap (λ s. s ++ 34 ∷ []) (second ∙ ap (λ s. s ++ text) first)
    ∙ append_assoc (out ++ 34 ∷ []) text (34 ∷ [])
    ∙ append_assoc out (34 ∷ []) (text ++ 34 ∷ [])
    ∙ ap (λ s. out ++ s) (sym (plain_quoted text plain))
