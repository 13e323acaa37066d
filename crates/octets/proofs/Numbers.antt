-- Words that are decimal numbers.
use Rattle.std.proofs.Common.{◌≡◌, ℕ, ◌<◌, ◌≤◌, ◌^◌, List, length, true, None, Err, subst, arith, rules}
use Rattle.std.specs.Char.{is_ascii_digit}
use Rattle.std.specs.List.{list_all}
use Rattle.std.specs.Str.{IsUtf8}
use Rattle.std.specs.Str.Parse.{digits_value, ParsesUnsigned}
use Rattle.std.proofs.lemmas.Bool.Decides.{nat_tests}
use Rattle.std.proofs.lemmas.Str.{IsUtf8-from_ascii}
use Rattle.std.proofs.lemmas.Str.Parse.{IsNumeralModel, numerals_by_value, parse_digits}
use Rattle.std.proofs.lemmas.Str.Ascii.{IsAscii-from_all}
use Rattle.std.proofs.lemmas.List.Elements.{All-weaker}
use Rattle.std.proofs.lemmas.List.Sums.{AllPass-from_list_all}
use Rattle.octets.specs.Decimal.{is_decimal, number_to}

-- `digits_value` is what `parse` reads
pub digits : IsNumeralModel (λ ds. list_all is_ascii_digit ds ≡ true) (digits_value 10)
digits = numerals_by_value _ (search rules)

pub all_digits : (word : List ℕ) → is_decimal word ≡ true → list_all is_ascii_digit word ≡ true
all_digits word h = grind (arith, nat_tests)

pub not_empty : (word : List ℕ) → is_decimal word ≡ true → 0 < length word
not_empty word h = grind (arith, nat_tests)

small : (b : ℕ) → is_ascii_digit b ≡ true → b < 128
small b digit = grind (arith, nat_tests)

-- digits are text
pub decimal_is_text : (word : List ℕ) → is_decimal word ≡ true → IsUtf8 word
decimal_is_text word h = IsUtf8-from_ascii word (IsAscii-from_all word (All-weaker (λ b. is_ascii_digit b ≡ true) (λ b. b < 128) small word (AllPass-from_list_all is_ascii_digit word (all_digits word h))))

-- a number that fits no u64 is over each limit
pub too_large : (word : List ℕ) (most : ℕ) → most < 2 ^ 64 → 2 ^ 64 ≤ digits_value 10 word → None ≡ number_to most word
too_large word most fits large = grind (arith, nat_tests)

-- what `parse` refuses is over each limit
pub refused : {E : Type 0} (word text : List ℕ) (most : ℕ) (e : E) → text ≡ word → is_decimal word ≡ true → most < 2 ^ 64 → ParsesUnsigned 64 10 text (Err e) → None ≡ number_to most word
refused word text most e same decimal fits none =
    let at = subst (λ t. ParsesUnsigned 64 10 t (Err e)) same none in
    let never = parse_digits digits 64 word (Err e) at (all_digits word decimal) in
    too_large word most fits (not_below (digits_value 10 word) (λ less. never (not_empty word decimal, less)))
  where
    not_below : (n : ℕ) → (n < 2 ^ 64 → ⊥) → 2 ^ 64 ≤ n
    not_below n h = omega arith
