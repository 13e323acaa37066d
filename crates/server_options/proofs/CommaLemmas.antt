-- A text before its first comma has none.
use Rattle.std.proofs.Common.{◌≡◌, ℕ, ◌<◌, ◌==◌, List, length, get_or, false, sym, subst, arith}
use Rattle.std.specs.List.{position_or_len, before_first}
use Rattle.std.proofs.lemmas.Grind.{common_steps}
use Rattle.std.proofs.lemmas.List.Folds.{list_any_none}
use Rattle.std.proofs.lemmas.List.Sums.{fails_before_first}
use Rattle.server_options.specs.Listening.{HasNoComma}

pub none_in_all : (text : List ℕ) → position_or_len (λ b. b == 44) text ≡ length text → HasNoComma text
none_in_all text is = list_any_none (λ b. b == 44) text (λ k d lt. fails_before_first (λ b. b == 44) text k d (omega (arith, is, lt)))

pub none_before : (text front : List ℕ) → front ≡ before_first (λ b. b == 44) text → HasNoComma front
none_before text front is = subst HasNoComma (sym is) (list_any_none (λ b. b == 44) (before_first (λ b. b == 44) text) (λ k d lt. one k d lt))
  where
    one : (k d : ℕ) → k < length (before_first (λ b. b == 44) text) → (get_or (before_first (λ b. b == 44) text) k d == 44) ≡ false
    one k d lt =
        let less : k < position_or_len (λ b. b == 44) text = grind (arith, common_steps, lt) in
        let same : get_or (before_first (λ b. b == 44) text) k d ≡ get_or text k d = grind (arith, common_steps, less) in
        subst (λ x. (x == 44) ≡ false) (sym same) (fails_before_first (λ b. b == 44) text k d less)
