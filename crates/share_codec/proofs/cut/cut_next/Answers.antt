use Rattle.std.proofs.Common.{◌≡◌, ◌*◌, List, ℕ, length, ap, ◌∙◌, subst, arith, length-drop}
use Rattle.std.specs.Prelude.{IfOk}
use Rattle.std.specs.Simd.{first_chunks}
use Rattle.erasure.specs.Given.{contents_of}
use Rattle.share_codec.proofs.Making.{rest_is}
use Rattle.share_codec.proofs.NextPieces.{next_pieces, next_fit, none_next}
use Rattle.share_codec.proofs.cut.cut_next.Goals as goal

pub returns-then-count-done : goal.returns-then-count-done
returns-then-count-done c = ap contents_of c.new.ensures.items ∙ none_next c.args.size c.args.count c.args.done c.args.most c.args.bytes.now (omega arith)

pub cut-requires : goal.cut-requires
cut-requires c =
    let start : ℕ = c.args.done * c.args.size in
    let bytes : List ℕ = c.args.bytes.now in
    next_fit c.args.size c.args.count c.args.done c.args.most c.min.result (length bytes) _ (omega arith) c.min.ensures c.requires
    (ap length (rest_is start bytes) ∙ length-drop start bytes)

pub returns : goal.returns
returns c =
    let start : ℕ = c.args.done * c.args.size in
    subst (λ (pieces : List (List ℕ)). IfOk c.cut.result (λ cut. contents_of cut.items ≡ pieces))
    (ap (first_chunks c.args.size c.min.result) (rest_is start c.args.bytes.now)
    ∙ next_pieces c.args.size c.args.count c.args.done c.args.most c.min.result c.args.bytes.now (omega arith) c.min.ensures)
    c.cut.ensures
