use Rattle.std.proofs.Common.{◌≡◌, ℕ, ◌-◌, ◌*◌, List, ◌++◌, length, replicate, ap, ◌∙◌, subst}
use Rattle.std.specs.Prelude.{IfOk}
use Rattle.std.specs.Int.{div_ceil}
use Rattle.std.specs.Simd.{first_chunks}
use Rattle.share_codec.specs.Params.{ParamsValue}
use Rattle.cap_binding.proofs.Cuts.{whole_segment, padded_segment}
use Rattle.cap_binding.proofs.Columns.{block_row-is}
use Rattle.cap_binding.proofs.block_hashes.row.Goals as goal

pub returns-then-segment-size : goal.returns-then-segment-size
returns-then-segment-size c =
    subst (λ (hs : List (List ℕ)). IfOk c.padded_row.result (λ row. row.items ≡ hs))
    (block_row-is c.args.params.now c.args.segment.now (first_chunks c.div_ceil-size.result c.args.params.now.k c.args.segment.now)
    (whole_segment c.args.params.now.k c.div_ceil-size.result c.args.segment.now (c.div_ceil-size.ensures ∙ ap (div_ceil (length c.args.segment.now)) (ap (λ (v : ParamsValue). v.k) c.params.view_is)) (c.if-segment-size.true ∙ ap (λ m. c.div_ceil-size.result * m) (ap (λ (v : ParamsValue). v.k) c.params.view_is))))
    c.padded_row.ensures

pub returns-in_ok-bytes : goal.returns-in_ok-bytes
returns-in_ok-bytes c =
    subst (λ (hs : List (List ℕ)). IfOk c.padded_row-else-segment-size.result (λ row. row.items ≡ hs))
    (block_row-is c.args.params.now c.args.segment.now (first_chunks c.div_ceil-size.result c.args.params.now.k c.deref.result.now)
    (padded_segment c.args.params.now.k c.div_ceil-size.result c.args.segment.now c.deref.result.now (c.div_ceil-size.ensures ∙ ap (div_ceil (length c.args.segment.now)) (ap (λ (v : ParamsValue). v.k) c.params.view_is))
    (c.deref.ensures.value ∙ c.in_ok-bytes.ensures ∙ ap (λ m. c.args.segment.now ++ replicate (c.div_ceil-size.result * m - length c.args.segment.now) 0) (ap (λ (v : ParamsValue). v.k) c.params.view_is))))
    c.padded_row-else-segment-size.ensures
