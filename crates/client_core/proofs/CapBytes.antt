-- The bytes of a cap's text: none of them means anything in a target.
use Rattle.std.proofs.Common.{◌≡◌, ℕ, zero, suc, ◌+◌, ◌%◌, ◌^◌, ◌<◌, ◌≤◌, Bool, true, false, List, [], ◌∷◌, ◌++◌, length, get_or, refl, ap, ◌∙◌, arith}
use Rattle.std.specs.Prelude.{codes, decimal, ◌&&◌, ◌==◌, not, nat_le, nat_lt, IsUtf8}
use Rattle.std.specs.List.{list_all, AllPass, join_with_byte}
use Rattle.std.proofs.lemmas.Bool.Decides.{nat_tests}
use Rattle.std.proofs.lemmas.Fmt.{decimal_by_steps}
use Rattle.std.proofs.lemmas.List.Folds.{list_all-append}
use Rattle.std.proofs.lemmas.Str.{IsUtf8-from_ascii}
use Rattle.std.proofs.lemmas.Str.Ascii.{IsAscii-from_all}
use Rattle.base32_text.specs.Alphabet.{is_letter}
use Rattle.caps.specs.Fields.{ReadValue, VerifyValue}
use Rattle.caps.specs.CapTexts.{IsFieldsText, IsCapText}
use Rattle.caps.specs.Weakening.{cap_of}
use Rattle.caps.specs.declared.cap.Cap.TheVariants.{Chk}
use Rattle.caps.specs.declared.cap.VerifyCap.{VerifyCap}

-- from the dash to the last small letter, but neither `/` nor `?`
abbrev pub is_cap_byte : ℕ → Bool
is_cap_byte b = (nat_le 45 b && nat_lt b 123) && (not (b == 47) && not (b == 63))

-- the same as numbers
pub record IsCapByte (b : ℕ) : Type 0 where
  pub low : 45 ≤ b
  pub high : b < 123
  pub slash : b ≡ 47 → ⊥
  pub question : b ≡ 63 → ⊥

pub cap_byte : (b : ℕ) → is_cap_byte b ≡ true → IsCapByte b
cap_byte b e = record {
  low = grind (arith, nat_tests);
  high = grind (arith, nat_tests);
  slash = λ is. grind (arith, nat_tests);
  question = λ is. grind (arith, nat_tests);
}

letter_is : (b : ℕ) → is_letter b ≡ true → is_cap_byte b ≡ true
letter_is b e = grind (arith, nat_tests)

digit_is : (n : ℕ) → n < 10 → list_all is_cap_byte ((48 + n) ∷ []) ≡ true
digit_is n h = grind (arith, nat_tests)

pub decimal_is : (n : ℕ) → n < 2 ^ 64 → list_all is_cap_byte (decimal n) ≡ true
decimal_is n h = decimal_by_steps (λ (m : ℕ) (ds : List ℕ). list_all is_cap_byte ds ≡ true) digit_is
    (λ m ds above front. list_all-append is_cap_byte ds ((48 + m % 10) ∷ []) ∙ rw (front, digit_is (m % 10) (omega arith)) refl) n h

letters_are : (text : List ℕ) → AllPass is_letter text → list_all is_cap_byte text ≡ true
letters_are [] all = refl
letters_are (b ∷ text) all =
    let first : is_cap_byte b ≡ true = letter_is b (all 0 0 (omega arith)) in
    let rest : list_all is_cap_byte text ≡ true = letters_are text (λ k d below. all (suc k) d (omega arith)) in
    rw (first, rest) refl

-- two such in a row
pub both : (xs ys : List ℕ) → list_all is_cap_byte xs ≡ true → list_all is_cap_byte ys ≡ true → list_all is_cap_byte (xs ++ ys) ≡ true
both xs ys one other = list_all-append is_cap_byte xs ys ∙ rw (one, other) refl

colon_then : (xs ys : List ℕ) → list_all is_cap_byte xs ≡ true → list_all is_cap_byte ys ≡ true → list_all is_cap_byte (xs ++ 58 ∷ ys) ≡ true
colon_then xs ys one other = both xs (58 ∷ ys) one other

fields_are : (name ueb : List ℕ) (k n size : ℕ) (text : List ℕ) → IsFieldsText name ueb k n size text → list_all is_cap_byte text ≡ true
fields_are name ueb k n size text f =
    let limit = f.sharing.limit in
    let enough = f.sharing.enough in
    let parts : list_all is_cap_byte (join_with_byte 58 (f.name_text ∷ f.ueb_text ∷ decimal k ∷ decimal n ∷ decimal size ∷ [])) ≡ true =
    colon_then f.name_text (f.ueb_text ++ 58 ∷ (decimal k ++ 58 ∷ (decimal n ++ 58 ∷ decimal size))) (letters_are f.name_text f.name_spelled.letters)
    (colon_then f.ueb_text (decimal k ++ 58 ∷ (decimal n ++ 58 ∷ decimal size)) (letters_are f.ueb_text f.ueb_spelled.letters)
    (colon_then (decimal k) (decimal n ++ 58 ∷ decimal size) (decimal_is k (omega arith))
    (colon_then (decimal n) (decimal size) (decimal_is n (omega arith)) (decimal_is size f.size_fits)))) in
    ap (list_all is_cap_byte) f.parted ∙ parts

begun : (start rest text : List ℕ) → list_all is_cap_byte start ≡ true → text ≡ start ++ rest → list_all is_cap_byte rest ≡ true → list_all is_cap_byte text ≡ true
begun start rest text first is more = ap (list_all is_cap_byte) is ∙ both start rest first more

pub read_text_is : (f : ReadValue) (text : List ℕ) → IsCapText (Chk f) text → list_all is_cap_byte text ≡ true
read_text_is f text t = begun (codes "URI:CHK:") t.0 text refl t.1 (fields_are f.key f.ueb f.k f.n f.size t.0 t.2)

verify_text_by : (directory : Bool) (v : VerifyValue) (text : List ℕ) → IsCapText (cap_of (record { directory = directory; fields = v })) text → list_all is_cap_byte text ≡ true
verify_text_by true v text t = begun (codes "URI:DIR2-CHK-Verifier:") t.0 text refl t.1 (fields_are v.si v.ueb v.k v.n v.size t.0 t.2)
verify_text_by false v text t = begun (codes "URI:CHK-Verifier:") t.0 text refl t.1 (fields_are v.si v.ueb v.k v.n v.size t.0 t.2)

pub verify_text_is : (v : VerifyCap) (text : List ℕ) → IsCapText (cap_of v) text → list_all is_cap_byte text ≡ true
verify_text_is v text t = verify_text_by v.directory v.fields text t

-- what passes a test at each place
pub passes_at : (t : ℕ → Bool) (xs : List ℕ) → list_all t xs ≡ true → (k d : ℕ) → k < length xs → t (get_or xs k d) ≡ true
passes_at t [] e k d below = absurd (omega arith)
passes_at t (x ∷ xs) e zero d below = (first_true (t x) (list_all t xs) e)
  where
    first_true : (a b : Bool) → (a && b) ≡ true → a ≡ true
    first_true true b h = refl
    first_true false b h = absurd (cc)
passes_at t (x ∷ xs) e (suc k) d below = passes_at t xs (second_true (t x) (list_all t xs) e) k d (omega arith)
  where
    second_true : (a b : Bool) → (a && b) ≡ true → b ≡ true
    second_true true b h = h
    second_true false b h = absurd (cc)

pub is_utf8_text : (xs : List ℕ) → list_all is_cap_byte xs ≡ true → IsUtf8 xs
is_utf8_text xs e = IsUtf8-from_ascii xs (IsAscii-from_all xs (λ k d below. let h = (cap_byte (get_or xs k d) (passes_at is_cap_byte xs e k d below)).high in omega arith))
