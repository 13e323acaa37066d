use Rattle.std.proofs.Common.{◌+◌, ◌-◌, ◌*◌, ◌≤◌, List, ℕ, Bor, [], ◌∷◌, ◌++◌, length, take, drop, ap, ◌∙◌, arith}
use Rattle.std.proofs.lemmas.List.{map-append}
use Rattle.std.specs.Simd.{first_chunks}
use Rattle.erasure.specs.Given.{contents_of}
use Rattle.cap_binding.proofs.Cuts.{start_within, short_piece}
use Rattle.cap_binding.proofs.Cuts.{chunk_more}
use Rattle.cap_binding.proofs.cut.cut.Goals as goal

pub overflow_mul-start : goal.overflow_mul-start
overflow_mul-start c =
    let within : c.loop-at.at * c.args.size ≤ length c.args.bytes.now = start_within c.args.size c.args.count c.loop-at.at _ (omega arith) c.requires in
    omega arith

pub overflow_add-end : goal.overflow_add-end
overflow_add-end c =
    let within : c.loop-at.at * c.args.size ≤ length c.args.bytes.now = start_within c.args.size c.args.count c.loop-at.at _ (omega arith) c.requires in
    omega arith

pub loop-at-preserved : goal.loop-at-preserved
loop-at-preserved c =
    let start : ℕ = c.loop-at.at * c.args.size in
    ap contents_of c.in_ok-push.ensures.items ∙ map-append (λ (b : Bor (List ℕ)). b.now) c.loop-at.pieces.items _
    ∙ ap (λ bs. bs ++ take (start + c.min.result - start) (drop start c.args.bytes.now) ∷ []) c.loop-at.invariant
    ∙ ap (λ piece. first_chunks c.args.size c.loop-at.at c.args.bytes.now ++ piece ∷ []) (short_piece c.args.size c.loop-at.at c.min.result c.args.bytes.now c.min.ensures)
    ∙ chunk_more c.args.size c.loop-at.at c.args.bytes.now
