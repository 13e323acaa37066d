use Rattle.std.proofs.Common.{◌≡◌, ◌<◌, List, ℕ, get_or, length, rules, subst, ◌∙◌, sym, ap, arith}
use Rattle.aes_ctr.specs.KeyExpansion.{round_key}
use Rattle.aes_ctr.proofs.RoundLemmas.{round_key_none}
use Rattle.aes_ctr.proofs.key.Key.new.Goals as goal

pub invariant_of-result : goal.invariant_of-result
invariant_of-result c =
    let first = c.expanded.ensures 0 (omega arith) ∙ round_key_none c.args.bytes in
    let long : length c.args.bytes ≡ 16 = search rules in
    let low : (i : ℕ) → get_or c.args.bytes i 0 < 256 = search rules in (
      (ap length first ∙ long),
      (λ i. subst (λ (k : List ℕ). get_or k i 0 < 256) (sym first) (low i)),
      (λ n h. c.expanded.ensures n h ∙ ap (λ (key : List ℕ). round_key key n) (sym first)),
    )

pub returns : goal.returns
returns c = c.expanded.ensures 0 (omega arith) ∙ round_key_none c.args.bytes
