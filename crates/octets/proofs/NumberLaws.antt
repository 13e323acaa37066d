-- A number has one word.
use Rattle.std.proofs.Common.{◌≡◌, ℕ, zero, suc, ◌<◌, ◌≤◌, ◌^◌, List, length, get_or, Bool, true, false, cond, Option, Some, None, refl, sym, ap, subst, ◌∙◌, ◌↔◌, arith, decimal}
use Rattle.std.specs.Prelude.{nat_le, ◌&&◌, ◌||◌, ◌==◌, not}
use Rattle.std.specs.Str.Parse.{digits_value}
use Rattle.std.proofs.lemmas.Bool.Decides.{nat_tests}
use Rattle.std.proofs.lemmas.Fmt.{digits_decimal, decimal_digit, decimal_nonempty, first_decimal, digits_value-decimal, decimal-digits_value}
use Rattle.octets.specs.Decimal.{is_decimal, number_to}
use Rattle.octets.proofs.Numbers.{digits, all_digits, not_empty}

alone : (word : List ℕ) → is_decimal word ≡ true → get_or word 0 0 ≡ 48 → length word ≡ 1
alone word h zero_first = grind (arith, nat_tests)

none_some : (n : ℕ) → ◌≡◌ {A = Option ℕ} None (Some n) → ⊥
none_some n e = cc

-- the parts of a word that is read as a number
read_as : (most number : ℕ) (word : List ℕ) (t u : Bool) → is_decimal word ≡ t → nat_le (digits_value 10 word) most ≡ u → cond (t && u) (Some (digits_value 10 word)) None ≡ Some number
    → (is_decimal word ≡ true) × (nat_le (digits_value 10 word) most ≡ true) × (digits_value 10 word ≡ number)
read_as most number word true true is within some = (is, within, cc)
read_as most number word true false is within some = absurd (none_some number some)
read_as most number word false u is within some = absurd (none_some number some)

word_of : (most number : ℕ) (word : List ℕ) → most < 2 ^ 64 → number_to most word ≡ Some number → (number ≤ most) × (word ≡ decimal number)
word_of most number word fits some =
    let parts = read_as most number word (is_decimal word) (nat_le (digits_value 10 word) most) refl refl some in
    let within : digits_value 10 word ≤ most = le parts.1 in (
      subst (λ n. n ≤ most) parts.2 within,
      sym (decimal-digits_value digits word (all_digits word parts.0) (not_empty word parts.0) (alone word parts.0) (omega arith)) ∙ ap decimal parts.2,
    )
  where
    le : {n m : ℕ} → nat_le n m ≡ true → n ≤ m
    le h = grind (arith, nat_tests)

first_ok : (number : ℕ) → number < 2 ^ 64 → ((length (decimal number) == 1) || not (get_or (decimal number) 0 0 == 48)) ≡ true
first_ok zero small = ap (λ w. (length w == 1) || not (get_or w 0 0 == 48)) (decimal_digit 0 (omega arith))
first_ok (suc number) small =
    let first : 48 < get_or (decimal (suc number)) 0 0 = first_decimal (suc number) (omega arith) small in
    grind (arith, nat_tests)

decimal_is : (number : ℕ) → number < 2 ^ 64 → is_decimal (decimal number) ≡ true
decimal_is number small =
    let word = decimal number in
    let some : 0 < length word = decimal_nonempty number small in
    let not_none : (length word == 0) ≡ false = grind (arith, nat_tests) in
    ap (λ t. t && not (length word == 0) && ((length word == 1) || not (get_or word 0 0 == 48))) (digits_decimal digits number small)
    ∙ ap (λ t. not t && ((length word == 1) || not (get_or word 0 0 == 48))) not_none ∙ first_ok number small

number_of : (most number : ℕ) (word : List ℕ) → most < 2 ^ 64 → (number ≤ most) × (word ≡ decimal number) → number_to most word ≡ Some number
number_of most number word fits h =
    let small : number < 2 ^ 64 = omega (arith, h.0) in
    let value : digits_value 10 (decimal number) ≡ number = digits_value-decimal digits number small in
    let within : nat_le number most ≡ true = ge h.0 in
    ap (number_to most) h.1
    ∙ ap (λ t. cond (t && nat_le (digits_value 10 (decimal number)) most) (Some (digits_value 10 (decimal number))) None) (decimal_is number small)
    ∙ ap (λ v. cond (nat_le v most) (Some v) None) value ∙ ap (λ t. cond t (Some number) None) within
  where
    ge : {n m : ℕ} → n ≤ m → nat_le n m ≡ true
    ge h = grind (arith, nat_tests)

pub one_text : (most number : ℕ) (word : List ℕ) → most < 2 ^ 64 → (number_to most word ≡ Some number) ↔ ((number ≤ most) × (word ≡ decimal number))
one_text most number word fits = (word_of most number word fits, number_of most number word fits)
