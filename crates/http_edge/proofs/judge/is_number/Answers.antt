use Rattle.std.proofs.Common.{◌≡◌, ◌∙◌, true, length, arith, ℕ, ◌<◌}
use Rattle.std.specs.Prelude.{nat_lt}
use Rattle.std.proofs.lemmas.Bool.Decides.{nat_tests}
use Rattle.http_edge.proofs.judge.is_number.Goals as goal

positive : (n : ℕ) → 0 < n → nat_lt 0 n ≡ true
positive n h = grind (arith, nat_tests)

pub returns-then-not-is_empty : goal.returns-then-not-is_empty
returns-then-not-is_empty c =
    let some : nat_lt 0 (length c.args.value.now) ≡ true = positive (length c.args.value.now) (grind (arith, nat_tests)) in
    c.is_all_digits.ensures ∙ (rw some)
