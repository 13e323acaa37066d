-- Whether a byte stands in a text.
use Rattle.std.proofs.Common.{◌≡◌, ◌∙◌, ℕ, ◌<◌, ◌==◌, Bool, List, length, get_or, true, false, true≢false, ap, refl, sym, eq-eqb, ne_eqb}
use Rattle.std.specs.List.{list_any}
use Rattle.std.proofs.lemmas.List.{get_or_default}
use Rattle.std.proofs.lemmas.List.Folds.{list_any_at, list_any_none}

-- what tells it is the test of each byte
pub is_in : (c : ℕ) (text : List ℕ) (r : Bool) → (r ≡ true → (k : ℕ) × (k < length text) × (get_or text k 0 ≡ c)) → ((k : ℕ) → k < length text → get_or text k 0 ≡ c → r ≡ true)
    → r ≡ list_any (λ b. b == c) text
is_in c text true some all = let at = some refl in sym (list_any_at (λ b. b == c) text at.0 0 at.1 (eq-eqb _ c at.2))
is_in c text false some all = sym (list_any_none (λ b. b == c) text (λ k d l. ap (λ b. b == c) (get_or_default text k d 0 l) ∙ ne_eqb _ c (λ e. true≢false (sym (all k l e)))))
