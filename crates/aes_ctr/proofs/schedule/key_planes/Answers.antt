use Rattle.std.proofs.Common.{◌≡◌, ◌≢◌, ◌<◌, ℕ, List, [], get_or, length, set, refl, ap, ◌∙◌, arith, below_more, get_or-set_same, get_or-set_other, length-set}
use Rattle.aes_ctr.specs.KeyExpansion.{round_key}
use Rattle.aes_ctr.specs.Planes.{halves, planes}
use Rattle.aes_ctr.proofs.schedule.key_planes.Goals as goal

pub loop-n-init : goal.loop-n-init
loop-n-init c = record { long = refl; made = λ key expanded k h. absurd (omega arith) }

pub loop-n-preserved : goal.loop-n-preserved
loop-n-preserved c =
    let n = c.loop-n.n in
    let made = c.loop-n.planes in
    let more = c.planes_of-of_one.result in
    let fits : n < length made = omega (arith, c.loop-n.invariant.long) in
    record {
      long = length-set made n more ∙ c.loop-n.invariant.long;
      made = λ key expanded.
          let one : get_or c.args.keys.now n [] ≡ round_key key n = expanded n (omega arith) in
          below_more (λ k. get_or (set made n more) k [] ≡ planes (λ j. round_key key k)) n
          (λ k h. let other : k ≢ n = omega arith in
          get_or-set_other made n k more [] other ∙ c.loop-n.invariant.made key expanded k h)
          (get_or-set_same made n more [] fits ∙ c.planes_of-of_one.ensures (λ h. round_key key n) (c.twice.ensures ∙ ap (λ (b : List ℕ). halves (λ h. b)) one));
    }

pub returns : goal.returns
returns c = λ key expanded n h. c.loop-n.invariant.made key expanded n (omega arith)
