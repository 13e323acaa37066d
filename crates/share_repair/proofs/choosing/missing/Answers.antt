use Rattle.std.proofs.Common.{◌≡◌, ◌⊎◌, inl, inr, ℕ, ◌+◌, ◌<◌, sym, subst, arith}
use Rattle.std.specs.Prelude.{Any}
use Rattle.grid.specs.Placement.{server_of}
use Rattle.share_repair.specs.Whole.{IsAtServer}
use Rattle.share_repair.proofs.choosing.missing.Goals.{then-not-stands, else-not-stands}
use Rattle.share_repair.proofs.choosing.missing.Goals as goal

-- what holds below a number, and of it
one_more : (P : ℕ → Type 0) (n : ℕ) → ((m : ℕ) → m < n → P m) → P n → (m : ℕ) → m < n + 1 → P m
one_more P n before at m below = by_case (below_or m n below)
  where
    below_or : (m n : ℕ) → m < n + 1 → (m < n) ⊎ (m ≡ n)
    below_or m n below = grind arith

    by_case : (m < n) ⊎ (m ≡ n) → P m
    by_case (inl less) = before m less
    by_case (inr same) = subst P (sym same) at

pub loop-number-preserved : goal.loop-number-preserved
loop-number-preserved c = elim c.if-not-stands.branch [
  | then-not-stands w ↦ record {
    few = let few = c.loop-number.invariant.few in let is = w.missing-is in omega arith;
    none = λ none m below. let is = w.missing-is in absurd (omega arith);
  }
  | else-not-stands w ↦ record {
    few = let few = c.loop-number.invariant.few in let is = w.missing-is in omega arith;
    none = λ none m below. let is = w.missing-is in
        one_more (λ number. Any (IsAtServer c.args.label.now (server_of c.args.servers c.args.index.now number) number) c.args.judged.now) c.loop-number.number
        (c.loop-number.invariant.none (omega arith))
        (subst (λ server. Any (IsAtServer c.args.label.now server c.loop-number.number) c.args.judged.now) c.place_of.ensures (c.stands.ensures w.if-not-stands.false)) m below;
  }
]
