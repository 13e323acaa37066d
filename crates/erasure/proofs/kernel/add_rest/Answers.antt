use Rattle.std.proofs.Common.{◌≢◌, ℕ, ◌+◌, ◌*◌, ◌/◌, ◌%◌, ◌<◌, length, get_or, refl, ap, ◌∙◌, arith, set, get_or-set_other}
use Rattle.std.specs.Int.Bits.{bit_xor}
use Rattle.erasure.proofs.Halves.{product_of_tables, one_added, more_added}
use Rattle.erasure.proofs.kernel.add_rest.Goals as goal

pub loop-i-init : goal.loop-i-init
loop-i-init c = record { added = λ factor tables i ge lt. absurd (omega arith); whole = λ i lt. refl; kept = λ i le. refl }

pub loop-i-preserved : goal.loop-i-preserved
loop-i-preserved c =
    let i : ℕ = c.loop-i.i in
    let s : ℕ = get_or c.args.src.now i 0 in
    let product : ℕ = bit_xor (get_or c.args.low.now (s % 16) 0) (get_or c.args.high.now (s / 16) 0) in
    let now : ℕ = bit_xor (get_or c.loop-i.dst i 0) product in
    let small : s < 256 = (c.type_inv.src i).fits in
    record {
      added = λ factor tables.
          more_added factor c.args.src.now c.args.dst.now c.loop-i.dst (set c.loop-i.dst i now) (32 * (length c.args.src.now / 32)) i (i + 1)
          (c.loop-i.invariant.added factor tables) c.loop-i.invariant.kept
          (one_added factor i now c.args.src.now c.loop-i.dst (omega arith)
          (ap (bit_xor (get_or c.loop-i.dst i 0))
          (product_of_tables c.is_a_field.ensures.distributive factor c.args.low.now c.args.high.now s tables small)))
          (λ j lt. let ne : j ≢ i = omega arith in get_or-set_other c.loop-i.dst i j now 0 ne);
      whole = λ j lt. let ne : j ≢ i = omega arith in get_or-set_other c.loop-i.dst i j now 0 ne ∙ c.loop-i.invariant.whole j lt;
      kept = λ j le. let ne : j ≢ i = omega arith in get_or-set_other c.loop-i.dst i j now 0 ne ∙ c.loop-i.invariant.kept j (omega arith);
    }

pub returns-clause-added : goal.returns-clause-added
returns-clause-added c = λ factor tables j ge lt. c.loop-i.invariant.added factor tables j ge (omega arith)

pub returns-clause-whole : goal.returns-clause-whole
returns-clause-whole c = λ j lt. c.loop-i.invariant.whole j lt
