use Rattle.std.proofs.Common.{◌≡◌, ℕ, true, false, refl, ◌<◌, length, sym, ap, ◌∙◌, arith, below_more}
use Rattle.erasure.proofs.Numbered.{block_at, length-blocks_of}
use Rattle.erasure.proofs.given.has_another_length.Goals as goal

pub loop-block-init : goal.loop-block-init
loop-block-init c = λ k lt. absurd (omega arith)

pub returns-then-block-given : goal.returns-then-block-given
returns-then-block-given c =
    let n : ℕ = c.loop-block.block-index in
    let lt : n < length c.args.given.now = c.loop-block-test.true in (
      λ _. (
        n,
        omega (arith, length-blocks_of c.args.given.now),
        λ e. c.if-block-given.true
            (sym (ap length (block_at c.args.given.now n _ lt)) ∙ e ∙ ap length (block_at c.args.given.now 0 _ (omega arith))),
      ),
      λ _. refl,
    )

pub loop-block-preserved : goal.loop-block-preserved
loop-block-preserved c =
    let n : ℕ = c.loop-block.block-index in
    let lt : n < length c.args.given.now = c.loop-block-test.true in
    below_more _ _ c.loop-block.invariant
    (ap length (block_at c.args.given.now n _ lt) ∙ c.if-block-given.false ∙ sym (ap length (block_at c.args.given.now 0 _ (omega arith))))

pub returns : goal.returns
returns c = (
  λ h. let no : false ≡ true = h in cc,
  λ r. absurd (r.2 (c.loop-block.invariant r.0 (omega (arith, r.1, length-blocks_of c.args.given.now)))),
)
