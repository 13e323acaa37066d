-- Arguments that ask for a task.
use Rattle.std.proofs.Common.{◌≡◌, ◌∙◌, ℕ, List, [], ◌∷◌, length, get_or, true, refl, sym, ap, subst, arith, eqb-true}
use Rattle.std.specs.Prelude.{codes, ◌==◌}
use Rattle.gate_tasks.specs.Arguments.{Asks}
use Rattle.gate_tasks.specs.declared.arguments.Task.TheVariants.{Replay}

nothing : (rest : List (List ℕ)) → length rest ≡ 0 → rest ≡ []
nothing [] none = refl
nothing (word ∷ rest) none = absurd (omega arith)

pub asks_replay : (words : List (List ℕ)) (verb : List ℕ) (rest : List (List ℕ)) → words ≡ verb ∷ rest → verb ≡ codes "replay" → true ≡ (length rest == 0) → Asks words Replay
asks_replay words verb rest is replay none =
    subst (λ w. Asks w Replay) (sym is) (replay, nothing rest (eqb-true (length rest) 0 (sym none)))

-- two words, and three
pub two_words : (words : List (List ℕ)) (a b : List ℕ) → length words ≡ 2 → a ≡ get_or words 0 a → b ≡ get_or words 1 b → words ≡ a ∷ b ∷ []
two_words [] a b two first second = absurd (omega (arith, two))
two_words (u ∷ []) a b two first second = absurd (omega (arith, two))
two_words (u ∷ v ∷ []) a b two first second = ap (λ (w : List ℕ). w ∷ v ∷ []) (sym first) ∙ ap (λ (w : List ℕ). a ∷ w ∷ []) (sym second)
two_words (u ∷ v ∷ w ∷ more) a b two first second = absurd (omega (arith, two))

pub three_words : (words : List (List ℕ)) (a b d : List ℕ) → length words ≡ 3 → a ≡ get_or words 0 a → b ≡ get_or words 1 b → d ≡ get_or words 2 d → words ≡ a ∷ b ∷ d ∷ []
three_words [] a b d three first second third = absurd (omega (arith, three))
three_words (u ∷ []) a b d three first second third = absurd (omega (arith, three))
three_words (u ∷ v ∷ []) a b d three first second third = absurd (omega (arith, three))
three_words (u ∷ v ∷ w ∷ []) a b d three first second third =
    ap (λ (x : List ℕ). x ∷ v ∷ w ∷ []) (sym first) ∙ ap (λ (x : List ℕ). a ∷ x ∷ w ∷ []) (sym second) ∙ ap (λ (x : List ℕ). a ∷ b ∷ x ∷ []) (sym third)
three_words (u ∷ v ∷ w ∷ x ∷ more) a b d three first second third = absurd (omega (arith, three))
