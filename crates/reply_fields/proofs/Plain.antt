-- Values that hold no CR and no LF.
use Rattle.std.proofs.Common.{◌≡◌, ℕ, ◌<◌, ◌^◌, Bool, true, false, ◌&&◌, cond, List, [], ◌∷◌, ◌++◌, map, codes, decimal, refl, sym, ap, subst, ◌∙◌, append_assoc, arith}
use Rattle.std.specs.List.{All, AllPass, list_all, join_with_byte}
use Rattle.std.specs.Prelude.{◌==◌, not}
use Rattle.std.proofs.lemmas.Bool.{both_ways}
use Rattle.std.proofs.lemmas.Bool.Decides.{nat_tests}
use Rattle.std.proofs.lemmas.List.Elements.{All-head, All-tail}
use Rattle.std.proofs.lemmas.List.Folds.{list_all-append}
use Rattle.base32_text.specs.Alphabet.{is_letter}
use Rattle.base32_text.specs.Base32.{Spells}
use Rattle.caps.specs.CapTexts.{IsFieldsText, IsCapText}
use Rattle.caps.specs.Fields.{VerifyValue}
use Rattle.caps.specs.declared.cap.Cap.TheVariants.{ChkVerify}
use Rattle.http_edge.specs.Plain.{is_line_byte}
use Rattle.percent_encoding.specs.AsciiSet.{should_percent_encode}
use Rattle.percent_encoding.specs.Percent.{percent_encode}
use Rattle.percent_encoding.proofs.AsciiSetLemmas.{escaped_from_inside}
use Rattle.percent_encoding.proofs.PercentLemmas.{IsEscapeByte, All-percent_encode}
use Rattle.reply_fields.specs.Names.{escaped_in_names, plain_byte, named_disposition}

abbrev pub IsPlainText : List ℕ → Type 0
IsPlainText text = list_all is_line_byte text ≡ true

-- ---- from bytes to texts

both : (a b : Bool) → a ≡ true → b ≡ true → (a && b) ≡ true
both a b x y = rw (x, y) refl

plain_of_all : (text : List ℕ) → All (λ b. is_line_byte b ≡ true) text → IsPlainText text
plain_of_all [] all = refl
plain_of_all (b ∷ text) all = both _ _ (All-head (λ x. is_line_byte x ≡ true) b text all) (plain_of_all text (All-tail (λ x. is_line_byte x ≡ true) b text all))

joined : (a b : List ℕ) → IsPlainText a → IsPlainText b → IsPlainText (a ++ b)
joined a b x y = list_all-append is_line_byte a b ∙ both _ _ x y

-- ---- caps

letter_plain : (b : ℕ) → is_letter b ≡ true → is_line_byte b ≡ true
letter_plain b is = grind (arith, nat_tests)

letters_plain : (text : List ℕ) → AllPass is_letter text → IsPlainText text
letters_plain [] all = refl
letters_plain (b ∷ text) all =
    both _ _ (letter_plain b (All-head (λ x. is_letter x ≡ true) b text all)) (letters_plain text (All-tail (λ x. is_letter x ≡ true) b text all))

module _ (numbers : (n : ℕ) → n < 2 ^ 64 → IsPlainText (decimal n)) where
  fields_plain : (name ueb : List ℕ) (k n size : ℕ) (text : List ℕ) → IsFieldsText name ueb k n size text → IsPlainText text
  fields_plain name ueb k n size text is =
      subst IsPlainText (sym is.parted)
      (joined is.name_text _ (letters_plain is.name_text is.name_spelled.letters)
      (joined is.ueb_text _ (letters_plain is.ueb_text is.ueb_spelled.letters)
      (joined (decimal k) _ (numbers k (omega (arith, is.sharing.enough, is.sharing.limit)))
      (joined (decimal n) _ (numbers n (omega (arith, is.sharing.limit)))
      (numbers size is.size_fits)))))

  pub tag_plain : (file : VerifyValue) (text : List ℕ) → IsCapText (ChkVerify file) text → IsPlainText (34 ∷ (text ++ 34 ∷ []))
  tag_plain file text is =
      joined text (34 ∷ []) (subst IsPlainText (sym is.1) (joined (codes "URI:CHK-Verifier:") is.0 refl (fields_plain file.si file.ueb file.k file.n file.size is.0 is.2))) refl

-- ---- names

cr_escaped : should_percent_encode escaped_in_names 13 ≡ true
cr_escaped = escaped_from_inside escaped_in_names 13 refl

lf_escaped : should_percent_encode escaped_in_names 10 ≡ true
lf_escaped = escaped_from_inside escaped_in_names 10 refl

not_cr : (b : ℕ) → should_percent_encode escaped_in_names b ≡ false → b ≡ 13 → ⊥
not_cr b kept is = both_ways (should_percent_encode escaped_in_names 13) (subst (λ (n : ℕ). should_percent_encode escaped_in_names n ≡ false) is kept) cr_escaped

not_lf : (b : ℕ) → should_percent_encode escaped_in_names b ≡ false → b ≡ 10 → ⊥
not_lf b kept is = both_ways (should_percent_encode escaped_in_names 10) (subst (λ (n : ℕ). should_percent_encode escaped_in_names n ≡ false) is kept) lf_escaped

neither : (b : ℕ) → (b ≡ 13 → ⊥) → (b ≡ 10 → ⊥) → is_line_byte b ≡ true
neither b cr lf = grind (arith, nat_tests, cr, lf)

kept_plain : (b : ℕ) → should_percent_encode escaped_in_names b ≡ false → is_line_byte b ≡ true
kept_plain b kept = neither b (not_cr b kept) (not_lf b kept)

escape_plain : (b : ℕ) → IsEscapeByte b → is_line_byte b ≡ true
escape_plain b is = grind (arith, nat_tests)

escaped_plain : (name : List ℕ) → IsPlainText (percent_encode escaped_in_names name)
escaped_plain name = plain_of_all _ (All-percent_encode (λ b. is_line_byte b ≡ true) escaped_in_names name kept_plain escape_plain)

-- a byte of the other spelling is kept, or the space, or `_`
one_plain : (b : ℕ) (e s : Bool) → should_percent_encode escaped_in_names b ≡ e → (b == 32) ≡ s → is_line_byte (cond (e && not s) 95 b) ≡ true
one_plain b true true is space = let at : b ≡ 32 = grind (arith, nat_tests) in subst (λ (n : ℕ). is_line_byte n ≡ true) (sym at) refl
one_plain b true false is space = refl
one_plain b false s is space = kept_plain b is

names_plain : (name : List ℕ) → IsPlainText (map plain_byte name)
names_plain [] = refl
names_plain (b ∷ name) = both _ _ (one_plain b _ _ refl refl) (names_plain name)

pub named_plain : (kind name : List ℕ) → IsPlainText kind → IsPlainText (named_disposition kind name)
named_plain kind name plain =
    let escaped = percent_encode escaped_in_names name in
    let behind = codes "\"; filename*=UTF-8''" ++ escaped in
    let middle = map plain_byte name ++ behind in
    joined kind (codes "; filename=\"" ++ middle) plain
    (joined (codes "; filename=\"") middle refl (joined (map plain_byte name) behind (names_plain name) (joined (codes "\"; filename*=UTF-8''") escaped refl (escaped_plain name))))

-- a text that is put together
pub in_five : (a b c d e v w x y z : List ℕ) → v ≡ a → w ≡ v ++ b → x ≡ w ++ c → y ≡ x ++ d → z ≡ y ++ e → z ≡ a ++ (b ++ (c ++ (d ++ e)))
in_five a b c d e v w x y z one two three four five =
    five ∙ ap (λ t. t ++ e) (four ∙ ap (λ t. t ++ d) (three ∙ ap (λ t. t ++ c) (two ∙ ap (λ t. t ++ b) one)))
    ∙ in_order a b c d e
  where
    in_order : (a b c d e : List ℕ) → (((a ++ b) ++ c) ++ d) ++ e ≡ a ++ (b ++ (c ++ (d ++ e)))
    in_order a b c d e = simp append_assoc refl
