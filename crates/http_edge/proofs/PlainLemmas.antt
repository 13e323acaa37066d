-- Digits hold no CR and no LF.
use Rattle.std.proofs.Common.{◌≡◌, ℕ, ◌+◌, ◌%◌, ◌^◌, ◌<◌, true, List, [], ◌∷◌, refl, ◌∙◌, arith}
use Rattle.std.specs.Prelude.{decimal}
use Rattle.std.specs.List.{list_all}
use Rattle.std.proofs.lemmas.Bool.Decides.{nat_tests}
use Rattle.std.proofs.lemmas.Fmt.{decimal_by_steps}
use Rattle.std.proofs.lemmas.List.Folds.{list_all-append}
use Rattle.http_edge.specs.Plain.{is_line_byte}

digit_plain : (n : ℕ) → n < 10 → list_all is_line_byte ((48 + n) ∷ []) ≡ true
digit_plain n h = grind (arith, nat_tests)

pub decimal_plain : (n : ℕ) → n < 2 ^ 64 → list_all is_line_byte (decimal n) ≡ true
decimal_plain n h = decimal_by_steps (λ (m : ℕ) (ds : List ℕ). list_all is_line_byte ds ≡ true) digit_plain
    (λ m ds above front. list_all-append is_line_byte ds ((48 + m % 10) ∷ []) ∙ rw (front, digit_plain (m % 10) (omega arith)) refl) n h
