-- Which bytes are names.
use Rattle.std.proofs.Common.{◌≡◌, ◌==◌, ℕ, Bool, true, false, not, ◌&&◌, List, [], ◌∷◌, length, chars, IsUtf8, refl, sym, ap, subst, ◌∙◌}
use Rattle.std.specs.Prelude.{◌↔◌, IsTrue}
use Rattle.std.specs.Str.{is_utf8}
use Rattle.std.proofs.lemmas.Bool.{and_parts}
use Rattle.std.proofs.lemmas.Str.{chars_from_encodes, is_utf8-from_IsUtf8, IsUtf8-from_is_utf8}
use Rattle.std.specs.Ordering.{nat_cmp, is_lt}
use Rattle.std.specs.declared.cmp.Ordering.{Ordering}
use Rattle.std.specs.declared.cmp.Ordering.TheVariants.{Less, Equal, Greater}
use Rattle.std.specs.Cmp.{both_ways}
use Rattle.unicode_normalization.specs.Forms.{Nfc, is_in_form, IsInForm, nfc}
use Rattle.unicode_normalization.proofs.FormsLemmas.{is_in_form-true, is_in_form_from, nfc_idem}
use Rattle.std.specs.Cmp.Lexicographic.{slice_cmp}
use Rattle.dir_codec.specs.Names.{is_name, nfc_text}

-- a text that is not empty is a name just where it is in NFC
pub text_is_name : (text : List ℕ) (b : Bool) → IsUtf8 text → (length text == 0) ≡ false → (IsTrue b ↔ IsInForm Nfc (chars text)) → is_name text ≡ b
unfolding is_name
text_is_name text b utf8 some nfc =
    rw (is_utf8-from_IsUtf8 text utf8, some)
    (both_ways (is_in_form Nfc (chars text)) b (λ h. nfc.1 (is_in_form-true Nfc (chars text) h)) (λ h. is_in_form_from Nfc (chars text) (nfc.0 h)))

pub same_text_is_name : (text bytes : List ℕ) (b c : Bool) → text ≡ bytes → IsUtf8 bytes → (length text == 0) ≡ false → (IsTrue b ↔ IsInForm Nfc (chars text)) → b ≡ c → is_name bytes ≡ c
same_text_is_name text bytes b c same utf8 some nfc is = ap is_name (sym same) ∙ text_is_name text b (subst IsUtf8 (sym same) utf8) some nfc ∙ is

pub empty_is_none : (text : List ℕ) → IsUtf8 text → (length text == 0) ≡ true → is_name text ≡ false
unfolding is_name
empty_is_none text utf8 none = rw (is_utf8-from_IsUtf8 text utf8, none) refl

torn_at : (text : List ℕ) (b : Bool) → is_utf8 text ≡ b → ¬ (IsUtf8 text) → is_name text ≡ false
unfolding is_name
torn_at text true is other = absurd (other (IsUtf8-from_is_utf8 text is))
torn_at text false is other = rw is refl

pub other_is_none : (text : List ℕ) → ¬ (IsUtf8 text) → is_name text ≡ false
other_is_none text other = torn_at text (is_utf8 text) refl other

pub less : (o : Ordering) → is_lt o ≡ true → o ≡ Less
less Less h = refl
less Equal h = absurd cc
less Greater h = absurd cc

-- what is in NFC already
pub nfc_is_name : (key name : List ℕ) → IsUtf8 name → name ≡ nfc_text key → (length name == 0) ≡ false → is_name name ≡ true
unfolding nfc_text
nfc_is_name key name utf8 is some =
    let same : nfc (chars key) ≡ chars name = chars_from_encodes (nfc (chars key)) name utf8 (sym is) in
    let in_form : IsInForm Nfc (chars name) = ap nfc (sym same) ∙ nfc_idem (chars key) ∙ same in
    text_is_name name true utf8 some (λ h. in_form, λ h. refl)

-- a name is above the empty text
pub name_above : (name : List ℕ) → is_name name ≡ true → slice_cmp nat_cmp [] name ≡ Less
unfolding is_name
name_above [] is =
    let parts = and_parts (is_utf8 [] && not (length {A = ℕ} [] == 0)) _ is in
    let some : not true ≡ true = (and_parts (is_utf8 []) _ parts.0).1 in
    absurd cc
name_above (b ∷ bs) is = refl
