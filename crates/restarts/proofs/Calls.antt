-- What a crash in later calls leaves.
use Rattle.std.proofs.Common.{◌≡◌, ℕ, Bool, false, List, [], ◌∷◌, refl, subst, ◌∙◌, arith, inl, inr}
use Rattle.std.specs.Prelude.{IsTrue}
use Rattle.share_store.specs.Shares.{Shares}
use Rattle.kept_store.specs.Step.{IsInStep}
use Rattle.kept_store.specs.Calls.{after_calls, MayBeLeft, IsRun}
use Rattle.kept_store.specs.declared.calls.Call.{Call}

-- where no call was begun
at_first : (calls : List Call) (oks : List Bool) (m c : Shares) → c ≡ m → MayBeLeft calls oks m c
at_first [] oks m c is = is
at_first (call ∷ calls) [] m c is = inl is
at_first (call ∷ calls) (ok ∷ oks) m c is = inl (inl is)

module _ {H : Type 0} (moment : H → ℕ) (left_since : H → ℕ → Shares → Type 0) (honest : H → Bool) where
  pub later : (calls rest : List Call) (answers oks : List Bool) (first then last : H) (before stood now left : Shares)
      → IsRun moment left_since honest calls answers false first then before stood → IsTrue (honest then) → IsInStep moment left_since honest false then stood
      → IsRun moment left_since honest rest oks false then last stood now → left_since last (moment then) left → MayBeLeft rest oks (after_calls calls answers before) left
  later calls rest answers oks first then last before stood now left run h in_step more is =
      subst (λ (m : Shares). MayBeLeft rest oks m left) run.stands
      (elim ((more.crash refl h).since (moment then) left (omega arith) is) [
        | inl was ↦ at_first rest oks stood left (in_step refl h left was)
        | inr may ↦ may
      ])

  pub between : (calls : List Call) (answers : List Bool) (first then : H) (before stood left : Shares) → IsRun moment left_since honest calls answers false first then before stood
      → IsTrue (honest then) → IsInStep moment left_since honest false then stood → left_since then (moment then) left → left ≡ after_calls calls answers before
  between calls answers first then before stood left run h in_step is = in_step refl h left is ∙ run.stands
