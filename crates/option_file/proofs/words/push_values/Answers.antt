use Rattle.std.proofs.Common.{◌∙◌}
use Rattle.option_file.proofs.WordLemmas.{values_on, values_stop}
use Rattle.option_file.proofs.words.push_values.Goals as goal

pub returns-then-not-branch : goal.returns-then-not-branch
returns-then-not-branch c = λ key same.
    c.loop-value.invariant key same
    ∙ values_stop key _ c.args.values.now.items c.loop-value.value-index c.value-item.result
    (rw c.deref-value-items.ensures.value at c.loop-value-test.true) (rw c.deref-value-items.ensures.value at c.value-item.is)
    (rw c.if-not-branch.true at (c.in_ok-push_value.ensures key same))

pub loop-value-preserved : goal.loop-value-preserved
loop-value-preserved c = λ key same.
    c.loop-value.invariant key same
    ∙ values_on key _ _ c.args.values.now.items c.loop-value.value-index c.value-item.result
    (rw c.deref-value-items.ensures.value at c.loop-value-test.true) (rw c.deref-value-items.ensures.value at c.value-item.is)
    (rw c.if-not-branch.false at (c.in_ok-push_value.ensures key same))
