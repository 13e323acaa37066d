use Rattle.std.specs.Simd.{first_chunks}
use Rattle.share_codec.specs.Segments.{cut_blocks}
use Rattle.share_codec.proofs.Cuts.{filled, fills}
use Rattle.share_codec.proofs.share_view.ShareView.new.Goals as goal

pub invariant_of-result : goal.invariant_of-result
invariant_of-result c =
    fills c.args.params.now _ _ _ c.block_size.ensures.size c.segment_count.ensures.count c.requires.all (filled c.args.params.now c.params_are_a_sharing.ensures c.requires.some) (c.block_size.ensures.some c.requires.some)

pub returns : goal.returns
unfolding cut_blocks
returns c = λ i. record { number = c.args.number; ueb = c.args.ueb; blocks = first_chunks (c.block_size.ensures.size i) (c.segment_count.ensures.count i) c.args.blocks.now }
