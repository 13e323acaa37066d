use Rattle.std.proofs.Common.{replicate, ◌≡◌, ◌≢◌, ℕ, ◌+◌, ◌<◌, List, [], get_or, length, set, refl, ap, sym, ◌∙◌, arith, below_more, get_or-set_same, get_or-set_other, length-set}
use Rattle.aes_ctr.specs.Field.{times_x}
use Rattle.aes_ctr.specs.KeyExpansion.{next_round_key, round_key, x_power}
use Rattle.aes_ctr.proofs.RoundLemmas.{x_power_more, round_key_more}
use Rattle.aes_ctr.proofs.schedule.expanded.Goals as goal

pub loop-n-init : goal.loop-n-init
unfolding x_power round_key
loop-n-init c = record {
  long = refl;
  power_is = refl;
  last_is = refl;
  made = λ k h.
      let first : k ≡ 0 = omega arith in
      ap (λ (n : ℕ). get_or (replicate 11 c.args.key) n []) first ∙ ap (round_key c.args.key) (sym first);
}

pub loop-n-preserved : goal.loop-n-preserved
loop-n-preserved c =
    let n = c.loop-n.n in
    let keys = c.loop-n.keys in
    let key = c.args.key in
    let next = c.next_round_key-next.result in
    let long = c.loop-n.invariant.long in
    let fits : n + 1 < length keys = omega arith in
    let next_is : next ≡ round_key key (n + 1) =
    c.next_round_key-next.ensures n c.loop-n.invariant.power_is
    ∙ ap (λ (k : List ℕ). next_round_key k n) c.loop-n.invariant.last_is ∙ round_key_more key n in
    record {
      long = length-set keys (n + 1) next ∙ long;
      power_is = c.double-power.ensures ∙ ap times_x c.loop-n.invariant.power_is ∙ x_power_more n;
      last_is = next_is;
      made = below_more (λ k. get_or (set keys (n + 1) next) k [] ≡ round_key key k) (n + 1)
          (λ k h. let other : k ≢ n + 1 = omega arith in
          get_or-set_other keys (n + 1) k next [] other ∙ c.loop-n.invariant.made k h)
          (get_or-set_same keys (n + 1) next [] fits ∙ next_is);
    }

pub returns : goal.returns
returns c = λ n h. c.loop-n.invariant.made n (omega arith)
