use Rattle.std.proofs.Common.{◌≡◌, ℕ, ◌+◌, ◌-◌, ◌<◌, true, false, get_or, arith}
use Rattle.std.specs.Prelude.{nat_le}
use Rattle.std.specs.Char.{is_ascii_digit, digit_value}
use Rattle.std.specs.Str.Parse.{digits_value}
use Rattle.http_edge.specs.Judge.{most_body_bytes}
use Rattle.std.proofs.lemmas.Bool.Decides.{nat_tests}
use Rattle.std.proofs.lemmas.Int.Digits.{digits_value_more}
use Rattle.std.proofs.lemmas.List.Sums.{AllPass-from_list_all}
use Rattle.std.proofs.lemmas.Str.Parse.{digits_value-take-le}
use Rattle.http_edge.proofs.judge.small_number.Goals as goal

digit_at : (c : ℕ) → is_ascii_digit c ≡ true → digit_value c ≡ c - 48
digit_at c h = grind (arith, nat_tests)

pub loop-b-preserved : goal.loop-b-preserved
loop-b-preserved c =
    let ds = c.args.digits.now in
    let test : is_ascii_digit (get_or ds c.loop-b.b-index 0) ≡ true = AllPass-from_list_all is_ascii_digit ds c.requires c.loop-b.b-index 0 c.loop-b-test.true in
    (omega (arith, digit_at (get_or ds c.loop-b.b-index 0) test, digits_value_more 10 ds c.loop-b.b-index c.loop-b-test.true), omega arith)

pub returns-then-number-gt-MOST_BODY_BYTES : goal.returns-then-number-gt-MOST_BODY_BYTES
returns-then-number-gt-MOST_BODY_BYTES c =
    let ds = c.args.digits.now in
    let test : is_ascii_digit (get_or ds c.loop-b.b-index 0) ≡ true = AllPass-from_list_all is_ascii_digit ds c.requires c.loop-b.b-index 0 c.loop-b-test.true in
    let long : most_body_bytes < digits_value 10 ds = omega (arith, digit_at (get_or ds c.loop-b.b-index 0) test, digits_value_more 10 ds c.loop-b.b-index c.loop-b-test.true, digits_value-take-le 10 ds (c.loop-b.b-index + 1) (omega arith)) in
    let no : nat_le (digits_value 10 ds) most_body_bytes ≡ false = over (digits_value 10 ds) long in
    rw no
  where
    over : (n : ℕ) → most_body_bytes < n → nat_le n most_body_bytes ≡ false
    over n h = grind (arith, nat_tests)
