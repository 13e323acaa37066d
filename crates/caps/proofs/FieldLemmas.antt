-- Five fields parted by `:`.
use Rattle.std.proofs.Common.{◌≡◌, ◌≢◌, ℕ, ◌<◌, ◌≤◌, ◌^◌, Bool, true, false, ◌&&◌, ◌==◌, cond, List, [], ◌∷◌, length, get_or, decimal, Option, Some, None, Result, Ok, Err, refl, ap, sym, ◌∙◌, arith, eqb-true, eq-eqb}
use Rattle.std.specs.List.{All, join_with_byte}
use Rattle.std.specs.Str.Parse.{digits_value, AllDigits}
use Rattle.std.proofs.lemmas.Bool.Decides.{nat_tests}
use Rattle.std.proofs.lemmas.Fmt.{digits_decimal, decimal_injective}
use Rattle.std.proofs.lemmas.List.{get_or_default}
use Rattle.std.proofs.lemmas.List.Splits.{slice_split_none, slice_split_at, join_with_byte-slice_split}
use Rattle.std.proofs.lemmas.Str.Parse.{IsNumeralModel, numerals_by_value, tells_digits, not_in_digits}
use Rattle.base32_text.specs.Base32.{Spells}
use Rattle.base32_text.specs.Alphabet.{is_letter}
use Rattle.base32_text.specs.Reading.{reading}
use Rattle.base32_text.specs.declared.fault.B32Fault.{B32Fault}
use Rattle.base32_text.proofs.ReadingLemmas.{reading_is_spelled}
use Rattle.octets.specs.Sharing.{IsSharing}
use Rattle.caps.specs.CapTexts.{IsFieldsText}
use Rattle.caps.specs.Refusals.{parts, HasFields}
use Rattle.octets.specs.Decimal.{number_to}
use Rattle.octets.specs.Sharing.{is_sharing}
use Rattle.octets.proofs.NumberLaws.{one_text}
use Rattle.caps.specs.Reading.{numeral, if_of_length, bytes_spelled}

-- the texts of digits and their values
pub digits : IsNumeralModel (AllDigits 10) (digits_value 10)
digits = numerals_by_value (AllDigits 10) tells_digits

and_parts : (a b : Bool) → (a && b) ≡ true → (a ≡ true) × (b ≡ true)
and_parts true b e = (refl, e)
and_parts false b e = cc

-- what is said of a text that may be a number's
abbrev pub NumeralSays : List ℕ → Option ℕ → Type 0
NumeralSays text (Some number) = (text ≡ decimal number) × (number < 2 ^ 64)
NumeralSays text None = (number : ℕ) → number < 2 ^ 64 → text ≡ decimal number → ⊥

numeral_by : (text : List ℕ) (o : Option ℕ) → number_to 18446744073709551615 text ≡ o → NumeralSays text o
numeral_by text (Some number) e =
    let parts : (number ≤ 18446744073709551615) × (text ≡ decimal number) = (one_text 18446744073709551615 number text (omega arith)).0 e in
    (parts.1, omega (arith, parts.0))
numeral_by text None e = λ number small same.
    let some : number_to 18446744073709551615 text ≡ Some number = (one_text 18446744073709551615 number text (omega arith)).1 (omega arith, same) in
    cc

pub numeral_says : (text : List ℕ) → NumeralSays text (numeral text)
unfolding numeral
numeral_says text = numeral_by text (number_to 18446744073709551615 text) refl

numeral_is : (text : List ℕ) (number : ℕ) (o : Option ℕ) → NumeralSays text o → number < 2 ^ 64 → text ≡ decimal number → o ≡ Some number
numeral_is text number (Some other) s small same = ap Some (decimal_injective other number s.1 small (sym s.0 ∙ same))
numeral_is text number None s small same = absurd (s number small same)

pub numeral-decimal : (number : ℕ) → number < 2 ^ 64 → numeral (decimal number) ≡ Some number
numeral-decimal number small = numeral_is (decimal number) number (numeral (decimal number)) (numeral_says (decimal number)) small refl

-- what is said of a text that may spell so many bytes
abbrev pub BytesSay : ℕ → List ℕ → Option (List ℕ) → Type 0
BytesSay count text (Some bytes) = Spells text bytes × (length bytes ≡ count)
BytesSay count text None = (bytes : List ℕ) → Spells text bytes → length bytes ≡ count → ⊥

bytes_by_length : (count : ℕ) (text bytes : List ℕ) (b : Bool) → reading text ≡ Ok bytes → (length bytes == count) ≡ b
    → BytesSay count text (cond b (Some bytes) None)
bytes_by_length count text bytes true r e = ((reading_is_spelled text bytes).1 r, eqb-true (length bytes) count e)
bytes_by_length count text bytes false r e = λ other s long.
    let same : Ok other ≡ Ok bytes = sym ((reading_is_spelled text other).0 s) ∙ r in
    let one : other ≡ bytes = cc in
    let yes : (length bytes == count) ≡ true = eq-eqb (length bytes) count (ap length (sym one) ∙ long) in
    cc

bytes_by : (count : ℕ) (text : List ℕ) (r : Result (List ℕ) B32Fault) → reading text ≡ r → BytesSay count text (if_of_length count r)
bytes_by count text (Ok bytes) e = bytes_by_length count text bytes _ e refl
bytes_by count text (Err fault) e = λ bytes s long. let same : Ok bytes ≡ Err fault = sym ((reading_is_spelled text bytes).0 s) ∙ e in cc

pub bytes_say : (count : ℕ) (text : List ℕ) → BytesSay count text (bytes_spelled count text)
unfolding bytes_spelled
bytes_say count text = bytes_by count text (reading text) refl

pub bytes_spelled-spells : (count : ℕ) (text bytes : List ℕ) → Spells text bytes → length bytes ≡ count → bytes_spelled count text ≡ Some bytes
unfolding bytes_spelled
bytes_spelled-spells count text bytes s long =
    ap (if_of_length count) ((reading_is_spelled text bytes).0 s)
    ∙ (let yes : (length bytes == count) ≡ true = eq-eqb (length bytes) count long in rw yes refl)

pub sharing_test : (k n : ℕ) → IsSharing k n → is_sharing k n ≡ true
sharing_test k n s =
    let some : 1 ≤ k = s.some in
    let enough : k ≤ n = s.enough in
    let limit : n ≤ 256 = s.limit in
    grind (arith, nat_tests)

pub test_sharing : (k n : ℕ) → is_sharing k n ≡ true → IsSharing k n
test_sharing k n e = record { some = grind (arith, nat_tests); enough = grind (arith, nat_tests); limit = grind (arith, nat_tests) }

-- no `:` stands in a field
abbrev pub NoColon : List ℕ → Type 0
NoColon text = All (λ byte. (byte == 58) ≡ false) text

letter_no_colon : (byte : ℕ) → is_letter byte ≡ true → (byte == 58) ≡ false
letter_no_colon byte h = grind (arith, nat_tests)

other_test : (a b : ℕ) → (a ≡ b → ⊥) → (a == b) ≡ false
other_test a b h = grind (arith, nat_tests)

pub spelled_no_colon : (text bytes : List ℕ) → Spells text bytes → NoColon text
spelled_no_colon text bytes s = λ k d l. letter_no_colon (get_or text k d) (s.letters k d l)

pub decimal_no_colon : (number : ℕ) → number < 2 ^ 64 → NoColon (decimal number)
decimal_no_colon number small = λ k d l.
    let other : get_or (decimal number) k 0 ≢ 58 =
    not_in_digits digits (decimal number) 58 (digits_decimal digits number small) (λ r. absurd (omega arith)) k l in
    other_test (get_or (decimal number) k d) 58 (λ e. other (get_or_default (decimal number) k 0 d l ∙ e))

pub parts-five : (a b c d e : List ℕ) → NoColon a → NoColon b → NoColon c → NoColon d → NoColon e
    → parts (join_with_byte 58 (a ∷ b ∷ c ∷ d ∷ e ∷ [])) ≡ a ∷ b ∷ c ∷ d ∷ e ∷ []
parts-five a b c d e na nb nc nd ne =
    slice_split_at (λ byte. byte == 58) a 58 _ na refl
    ∙ ap (λ t. a ∷ t) (slice_split_at (λ byte. byte == 58) b 58 _ nb refl
    ∙ ap (λ t. b ∷ t) (slice_split_at (λ byte. byte == 58) c 58 _ nc refl
    ∙ ap (λ t. c ∷ t) (slice_split_at (λ byte. byte == 58) d 58 _ nd refl
    ∙ ap (λ t. d ∷ t) (slice_split_none (λ byte. byte == 58) e ne))))

pub small_share : (k n : ℕ) → IsSharing k n → (k < 2 ^ 64) × (n < 2 ^ 64)
small_share k n s =
    let enough : k ≤ n = s.enough in
    let limit : n ≤ 256 = s.limit in
    (omega arith, omega arith)

-- the fields of a cap's text
pub parts_of : (name ueb text : List ℕ) (k n size : ℕ) (f : IsFieldsText name ueb k n size text)
    → parts text ≡ f.name_text ∷ f.ueb_text ∷ decimal k ∷ decimal n ∷ decimal size ∷ []
parts_of name ueb text k n size f =
    ap parts f.parted
    ∙ parts-five f.name_text f.ueb_text (decimal k) (decimal n) (decimal size)
    (spelled_no_colon f.name_text name f.name_spelled) (spelled_no_colon f.ueb_text ueb f.ueb_spelled)
    (decimal_no_colon k (small_share k n f.sharing).0) (decimal_no_colon n (small_share k n f.sharing).1) (decimal_no_colon size f.size_fits)

pub has_fields : (name ueb text : List ℕ) (k n size : ℕ) → IsFieldsText name ueb k n size text
    → HasFields text (decimal k) (decimal n) (decimal size)
has_fields name ueb text k n size f = record {
  name_text = f.name_text;
  ueb_text = f.ueb_text;
  parted = parts_of name ueb text k n size f;
  name = name;
  name_spelled = f.name_spelled;
  name_long = f.name_long;
  ueb = ueb;
  ueb_spelled = f.ueb_spelled;
  ueb_long = f.ueb_long;
}

pub fields_text_of : (text k_text n_text size_text : List ℕ) (h : HasFields text k_text n_text size_text) (k n size : ℕ)
    → k_text ≡ decimal k → n_text ≡ decimal n → size_text ≡ decimal size → IsSharing k n → size < 2 ^ 64
    → IsFieldsText h.name h.ueb k n size text
fields_text_of text k_text n_text size_text h k n size ke ne se sharing fits = record {
  name_text = h.name_text;
  ueb_text = h.ueb_text;
  parted =
      sym (join_with_byte-slice_split 58 text)
      ∙ ap (join_with_byte 58)
      (h.parted
      ∙ (let e : h.name_text ∷ h.ueb_text ∷ k_text ∷ n_text ∷ size_text ∷ []
      ≡ h.name_text ∷ h.ueb_text ∷ decimal k ∷ decimal n ∷ decimal size ∷ [] = rw (ke, ne, se) refl in e));
  name_spelled = h.name_spelled;
  name_long = h.name_long;
  ueb_spelled = h.ueb_spelled;
  ueb_long = h.ueb_long;
  sharing = sharing;
  size_fits = fits;
}

-- two readings of one text have the same numbers' texts
pub same_texts : (text k n size k' n' size' : List ℕ) → HasFields text k n size → HasFields text k' n' size' → (k ≡ k') × (n ≡ n') × (size ≡ size')
same_texts text k n size k' n' size' h h' =
    let e : h.name_text ∷ h.ueb_text ∷ k ∷ n ∷ size ∷ [] ≡ h'.name_text ∷ h'.ueb_text ∷ k' ∷ n' ∷ size' ∷ [] = sym h.parted ∙ h'.parted in
    (cc, cc, cc)
