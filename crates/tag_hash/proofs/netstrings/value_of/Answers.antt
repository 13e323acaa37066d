use Rattle.std.proofs.Common.{◌≡◌, ℕ, ◌+◌, ◌-◌, ◌*◌, ◌<◌, ◌≤◌, List, length, take, true, false, get_or, sym, ap, ◌∙◌, arith}
use Rattle.std.specs.Prelude.{nat_lt, if◌then◌else◌, Some, None}
use Rattle.std.specs.List.{list_all}
use Rattle.std.specs.Char.{is_ascii_digit, digit_value}
use Rattle.std.specs.Str.Parse.{digits_value}
use Rattle.std.proofs.lemmas.Bool.Decides.{nat_tests}
use Rattle.std.proofs.lemmas.Int.Digits.{digits_value_more}
use Rattle.std.proofs.lemmas.List.{take_all}
use Rattle.std.proofs.lemmas.List.Sums.{AllPass-from_list_all}
use Rattle.std.proofs.lemmas.Str.Parse.{digits_value-take-le}
use Rattle.tag_hash.proofs.netstrings.value_of.Goals as goal

digit_at : (c : ℕ) → is_ascii_digit c ≡ true → digit_value c ≡ c - 48
digit_at c h = grind (arith, nat_tests)

-- one more digit
grown : (ds : List ℕ) (i number : ℕ) → list_all is_ascii_digit ds ≡ true → i < length ds → number ≡ digits_value 10 (take i ds) → digits_value 10 (take (i + 1) ds) ≡ number * 10 + (get_or ds i 0 - 48)
grown ds i number all below is =
    digits_value_more 10 ds i below
    ∙ (λ j. sym is j * 10 + digit_at (get_or ds i 0) (AllPass-from_list_all is_ascii_digit ds all i 0 below) j)

none_over : (n : ℕ) → 18446744073709551616 ≤ n → (if nat_lt n 18446744073709551616 then Some n else None) ≡ None
none_over n large = let no : nat_lt n 18446744073709551616 ≡ false = grind (arith, nat_tests) in rw no

some_below : (n : ℕ) → n < 18446744073709551616 → Some n ≡ (if nat_lt n 18446744073709551616 then Some n else None)
some_below n small = let test : nat_lt n 18446744073709551616 ≡ true = grind (arith, nat_tests) in rw test

too_large : (ds : List ℕ) (i number : ℕ) → list_all is_ascii_digit ds ≡ true → i < length ds → number ≡ digits_value 10 (take i ds) → 18446744073709551616 ≤ number * 10 + (get_or ds i 0 - 48) → 18446744073709551616 ≤ digits_value 10 ds
too_large ds i number all below is large =
    let more = grown ds i number all below is in
    let at_most = digits_value-take-le 10 ds (i + 1) (omega arith) in
    omega arith

pub returns-in_err-checked_mul : goal.returns-in_err-checked_mul
returns-in_err-checked_mul c =
    let large : 18446744073709551616 ≤ c.loop-digit.number * 10 = omega (arith, c.in_err-checked_mul.ensures) in
    c.from_residual.ensures ∙ sym (none_over _ (too_large c.args.digits.now c.loop-digit.digit-index c.loop-digit.number c.requires c.loop-digit-test.true c.loop-digit.invariant.value (omega arith)))

pub returns-in_err-number : goal.returns-in_err-number
returns-in_err-number c =
    let byte = get_or c.args.digits.now c.loop-digit.digit-index 0 in
    let large : 18446744073709551616 ≤ c.loop-digit.number * 10 + (byte - 48) = omega (arith, c.in_ok-checked_mul.ensures, c.in_err-number.ensures) in
    c.from_residual-in_err-number.ensures ∙ sym (none_over _ (too_large c.args.digits.now c.loop-digit.digit-index c.loop-digit.number c.requires c.loop-digit-test.true c.loop-digit.invariant.value large))

pub loop-digit-preserved : goal.loop-digit-preserved
loop-digit-preserved c = record {
  value = c.in_ok-number.ensures.1 ∙ ap (λ n. n + (get_or c.args.digits.now c.loop-digit.digit-index 0 - 48)) c.in_ok-checked_mul.ensures.1
      ∙ sym (grown c.args.digits.now c.loop-digit.digit-index c.loop-digit.number c.requires c.loop-digit-test.true c.loop-digit.invariant.value);
  fits = omega (arith, c.in_ok-number.ensures);
}

pub returns : goal.returns
returns c =
    let ds = c.args.digits.now in
    let whole : c.loop-digit.number ≡ digits_value 10 ds = c.loop-digit.invariant.value ∙ ap (digits_value 10) (take_all c.loop-digit.digit-index ds c.loop-digit-test.false) in
    ap (λ n. Some n) whole ∙ some_below (digits_value 10 ds) (omega arith)
