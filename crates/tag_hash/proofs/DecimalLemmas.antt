-- The decimal text of a number, digit by digit, and the number that it writes.
use Rattle.std.proofs.Common.{◌≡◌, ℕ, zero, suc, ◌+◌, ◌-◌, ◌*◌, ◌/◌, ◌%◌, ◌^◌, ◌<◌, ◌≤◌, List, [], ◌∷◌, ◌++◌, map, length, get_or, refl, sym, ap, subst, ◌∙◌, arith}
use Rattle.std.specs.Prelude.{decimal}
use Rattle.std.specs.Char.{digit_value}
use Rattle.std.specs.Int.Digits.{digits_of, number_from_digits, AllBelowBase}
use Rattle.std.specs.Str.Parse.{digits_value, AllDigits}
use Rattle.std.proofs.Math.Nat.{pow-succ'}
use Rattle.std.proofs.lemmas.Bool.Decides.{nat_tests}
use Rattle.std.proofs.lemmas.List.{map-append}
use Rattle.std.proofs.lemmas.Int.Digits.{digits_of_step, number_digits_of, digits_value_is, all_below_base_digits_of, first_digits_of}
use Rattle.std.proofs.lemmas.Fmt.{decimal_digit, decimal-digits_of, decimal-digits_value}
use Rattle.std.proofs.lemmas.Str.Parse.{numerals_by_value, tells_digits}
use Rattle.tag_hash.specs.Decimal.{decimal_text}

abbrev glyphs : List ℕ → List ℕ
glyphs ds = map (λ digit. 48 + digit) ds

decimal_text-zero : decimal_text 0 ≡ 48 ∷ []
unfolding decimal_text
decimal_text-zero = refl

decimal_text-suc : (n : ℕ) → decimal_text (suc n) ≡ glyphs (digits_of 10 (suc n))
unfolding decimal_text
decimal_text-suc n = refl

decimal_text-positive : (n : ℕ) → 0 < n → decimal_text n ≡ glyphs (digits_of 10 n)
decimal_text-positive zero above = absurd (omega arith)
decimal_text-positive (suc n) above = decimal_text-suc n

glyphs_step : (n : ℕ) → 0 < n → glyphs (digits_of 10 n) ≡ glyphs (digits_of 10 (n / 10)) ++ (48 + n % 10) ∷ []
glyphs_step n above =
    ap glyphs (digits_of_step 10 n (omega arith) above) ∙ map-append (λ digit. 48 + digit) (digits_of 10 (n / 10)) (n % 10 ∷ [])

-- a number of one digit
pub decimal_text_digit : (n : ℕ) → n < 10 → decimal_text n ≡ (48 + n) ∷ []
decimal_text_digit zero small = decimal_text-zero
decimal_text_digit (suc n) small =
    let none : suc n / 10 ≡ 0 = omega arith in
    let all : suc n % 10 ≡ suc n = omega arith in
    decimal_text-suc n ∙ glyphs_step (suc n) (omega arith) ∙ (λ i. glyphs (digits_of 10 (none i)) ++ (48 + all i) ∷ [])

-- a number of more
pub decimal_text_step : (n : ℕ) → 10 ≤ n → decimal_text n ≡ decimal_text (n / 10) ++ (48 + n % 10) ∷ []
decimal_text_step n large =
    let front : decimal_text (n / 10) ≡ glyphs (digits_of 10 (n / 10)) = decimal_text-positive (n / 10) (omega arith) in
    decimal_text-positive n (omega arith) ∙ glyphs_step n (omega arith) ∙ (λ i. (sym front) i ++ (48 + n % 10) ∷ [])

-- std's decimal text, which is one of 64 bits
pub decimal_text_printed : (n : ℕ) → n < 2 ^ 64 → decimal_text n ≡ decimal n
decimal_text_printed zero small = decimal_text-zero ∙ sym (decimal_digit 0 (omega arith))
decimal_text_printed (suc n) small = decimal_text-suc n ∙ sym (decimal-digits_of (suc n) (omega arith) small)

glyph_value : (d : ℕ) → d < 10 → digit_value (48 + d) ≡ d
glyph_value d small = grind (arith, nat_tests)

glyphs_digits : (ds : List ℕ) → AllBelowBase 10 ds → AllDigits 10 (glyphs ds)
glyphs_digits [] below = tt
glyphs_digits (d ∷ ds) below = (subst (λ v. v < 10) (sym (glyph_value d below.0)) below.0, glyphs_digits ds below.1)

glyphs_values : (ds : List ℕ) → AllBelowBase 10 ds → map digit_value (glyphs ds) ≡ ds
glyphs_values [] below = refl
glyphs_values (d ∷ ds) below = λ i. glyph_value d below.0 i ∷ glyphs_values ds below.1 i

-- nothing but digits
pub decimal_text_digits : (n : ℕ) → AllDigits 10 (decimal_text n)
decimal_text_digits zero = subst (AllDigits 10) (sym decimal_text-zero) (lit_digit, tt) where
  lit_digit : digit_value 48 < 10
  lit_digit = omega arith
decimal_text_digits (suc n) =
    subst (AllDigits 10) (sym (decimal_text-suc n)) (glyphs_digits (digits_of 10 (suc n)) (all_below_base_digits_of 10 (suc n) (omega arith)))

-- they write the number
pub digits_value-decimal_text : (n : ℕ) → digits_value 10 (decimal_text n) ≡ n
digits_value-decimal_text zero = ap (digits_value 10) decimal_text-zero
digits_value-decimal_text (suc n) =
    ap (digits_value 10) (decimal_text-suc n)
    ∙ digits_value_is 10 (glyphs (digits_of 10 (suc n)))
    ∙ ap (number_from_digits 10) (glyphs_values (digits_of 10 (suc n)) (all_below_base_digits_of 10 (suc n) (omega arith)))
    ∙ number_digits_of 10 (suc n) (omega arith)

pub decimal_text_injective : (m n : ℕ) → decimal_text m ≡ decimal_text n → m ≡ n
decimal_text_injective m n same = sym (digits_value-decimal_text m) ∙ ap (digits_value 10) same ∙ digits_value-decimal_text n

-- the first is a 0 only where it stands alone
first_glyph : (ds : List ℕ) → 0 < get_or ds 0 0 → 48 < get_or (glyphs ds) 0 0
first_glyph [] above = absurd (omega arith)
first_glyph (d ∷ ds) above = omega arith

pub first-decimal_text : (n : ℕ) → 0 < n → 48 < get_or (decimal_text n) 0 0
first-decimal_text zero above = absurd (omega arith)
first-decimal_text (suc n) above =
    subst (λ text. 48 < get_or text 0 0) (sym (decimal_text-suc n)) (first_glyph (digits_of 10 (suc n)) (first_digits_of 10 (suc n) (omega arith) above))

-- digits with no leading zero are the text of the number that they write
pub decimal_text-digits_value : (ds : List ℕ) → AllDigits 10 ds → 0 < length ds → (get_or ds 0 0 ≡ 48 → length ds ≡ 1) → digits_value 10 ds < 2 ^ 64 → decimal_text (digits_value 10 ds) ≡ ds
decimal_text-digits_value ds digits some led small =
    decimal_text_printed (digits_value 10 ds) small ∙ decimal-digits_value (numerals_by_value (AllDigits 10) tells_digits) ds digits some led small

tenfold : (k : ℕ) → 10 ^ (suc k + 1) ≡ 10 * 10 ^ (k + 1)
tenfold k = ap (λ e. 10 ^ e) (let same : suc k + 1 ≡ suc (k + 1) = omega arith in same) ∙ pow-succ' 10 (k + 1)

-- one digit less
pub room_left : (rest place : ℕ) → 10 ≤ rest → rest < 10 ^ (place + 1) → (1 ≤ place) × (rest / 10 < 10 ^ (place - 1 + 1))
room_left rest zero large below = absurd (omega arith)
room_left rest (suc k) large below =
    let more : 10 ^ (suc k + 1) ≡ 10 * 10 ^ (k + 1) = tenfold k in
    let same : suc k - 1 + 1 ≡ k + 1 = omega arith in
    (omega arith, subst (λ e. rest / 10 < 10 ^ e) (sym same) (omega arith))
