use Rattle.std.proofs.Common.{◌≡◌, ℕ, ◌+◌, ◌-◌, ◌*◌, ◌<◌, ◌≤◌, true, false, List, get_or, take, length, cond, Option, Some, None, sym, ap, ◌∙◌, arith, refl}
use Rattle.std.specs.Prelude.{nat_lt}
use Rattle.std.specs.List.{list_all}
use Rattle.std.specs.Char.{is_ascii_digit, digit_value}
use Rattle.std.specs.Str.Parse.{digits_value}
use Rattle.std.proofs.lemmas.Bool.Decides.{nat_tests}
use Rattle.std.proofs.lemmas.Int.Digits.{digits_value_more}
use Rattle.std.proofs.lemmas.List.{take_all}
use Rattle.std.proofs.lemmas.List.Sums.{AllPass-from_list_all}
use Rattle.std.proofs.lemmas.Str.Parse.{digits_value-take-le}
use Rattle.range_view.specs.Asked.{past}
use Rattle.range_view.proofs.number.number_in_u64.Goals as goal

digit_at : (c : ℕ) → is_ascii_digit c ≡ true → digit_value c ≡ c - 48
digit_at c h = grind (arith, nat_tests)

-- what the step gives
stepped : (n m : ℕ) → ◌≡◌ {A = Option ℕ} (Some m) (cond (nat_lt n past) (Some n) None) → (m ≡ n) × (n < past)
stepped n m e = (elim (nat_lt n past) as (λ b. nat_lt n past ≡ b → ◌≡◌ {A = Option ℕ} (Some m) (cond b (Some n) None) → (m ≡ n) × (n < past)) [
  | true ↦ λ is f. (let same : m ≡ n = cc in same, grind (arith, nat_tests))
  | false ↦ λ is f. absurd (cc)
]) refl e

stopped : (n : ℕ) → ◌≡◌ {A = Option ℕ} None (cond (nat_lt n past) (Some n) None) → past ≤ n
stopped n e = (elim (nat_lt n past) as (λ b. nat_lt n past ≡ b → ◌≡◌ {A = Option ℕ} None (cond b (Some n) None) → past ≤ n) [
  | true ↦ λ is f. absurd (cc)
  | false ↦ λ is f. grind (arith, nat_tests)
]) refl e

-- the value of one more digit
value_more : (ds : List ℕ) (i : ℕ) → list_all is_ascii_digit ds ≡ true → i < length ds
    → digits_value 10 (take (i + 1) ds) ≡ digits_value 10 (take i ds) * 10 + (get_or ds i 0 - 48)
value_more ds i digits within =
    let test : is_ascii_digit (get_or ds i 0) ≡ true = AllPass-from_list_all is_ascii_digit ds digits i 0 within in
    omega (arith, digit_at (get_or ds i 0) test, digits_value_more 10 ds i within)

pub loop-digit-preserved : goal.loop-digit-preserved
loop-digit-preserved c =
    let step = stepped _ _ (sym c.in-Some.is ∙ c.with_digit.ensures) in
    let more = value_more c.args.digits.now c.loop-digit.digit-index c.requires c.loop-digit-test.true in
    record { read = omega (arith, step.0, more, c.loop-digit.invariant.read); fits = omega (arith, step.0, step.1) }

pub returns-in_default : goal.returns-in_default
returns-in_default c =
    let ds = c.args.digits.now in
    let long = stopped _ (sym c.in_default.is ∙ c.with_digit.ensures) in
    let more = value_more ds c.loop-digit.digit-index c.requires c.loop-digit-test.true in
    let whole = digits_value-take-le 10 ds (c.loop-digit.digit-index + 1) (omega arith) in
    omega (arith, long, more, whole, c.loop-digit.invariant.read)

pub returns : goal.returns
returns c =
    let ds = c.args.digits.now in
    let whole = ap (digits_value 10) (take_all c.loop-digit.digit-index ds c.loop-digit-test.false) in
    omega (arith, whole, c.loop-digit.invariant.read, c.loop-digit.invariant.fits)
