use Rattle.std.proofs.Common.{[], ◌∷◌, ◌++◌, sym, ◌∙◌, ap}
use Rattle.share_store.proofs.Ranges.{range_next}
use Rattle.share_store.proofs.liar.LiarStore.numbers.Goals as goal

-- src/liar.rt:64:9
pub loop-number-preserved : goal.loop-number-preserved
loop-number-preserved c = c.in_ok-push.ensures.items ∙ ap (λ ns. ns ++ c.loop-number.number ∷ []) c.loop-number.invariant
    ∙ sym (range_next c.loop-number.number)
