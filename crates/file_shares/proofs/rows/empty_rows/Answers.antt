use Rattle.std.proofs.Common.{◌++◌, ◌∷◌, [], map, ap, sym, ◌∙◌, arith}
use Rattle.std.proofs.lemmas.List.{map-append}
use Rattle.std.proofs.lemmas.List.FromFn.{map-range_with_len_more}
use Rattle.file_shares.proofs.rows.empty_rows.Goals as goal

pub loop-preserved : goal.loop-preserved
loop-preserved g c =
    ap (map (λ row. row.items)) c.in_ok-push.ensures.items
    ∙ map-append (λ row. row.items) c.loop.rows.items (c.new.result ∷ [])
    ∙ (λ j. c.loop.invariant j ++ c.new.ensures.items j ∷ [])
    ∙ sym (map-range_with_len_more (λ _. []) 0 c.loop.counter c.loop.counter (omega arith))
