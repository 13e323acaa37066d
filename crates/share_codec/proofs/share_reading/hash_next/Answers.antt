use Rattle.std.proofs.Common.{◌≡◌, ◌<◌, List, ℕ, map, sym, ap, subst, arith}
use Rattle.share_codec.specs.Params.{ParamsValue}
use Rattle.share_codec.specs.Tags.{block_tag, block_hash}
use Rattle.share_codec.specs.Maker.{AreFirstHashes}
use Rattle.share_codec.proofs.Cuts.{filled}
use Rattle.share_codec.proofs.ReadingSteps.{last_blocks_by, last_fit}
use Rattle.share_codec.proofs.share_reading.hash_next.Goals as goal

pub push_next-requires-clause-fits : goal.push_next-requires-clause-fits
push_next-requires-clause-fits c =
    let size : c.params.inside.size ≡ c.args.params.now.size = ap (λ (p : ParamsValue). p.size) c.params.view_is in
    let some : 0 < c.args.params.now.size = omega arith in
    last_fit c.args.params.now c.args.bytes.now c.blocks_size-size.result c.block_size.result c.segment_count-count.result
    c.blocks_size-size.ensures.size c.block_size.ensures.size c.segment_count-count.ensures.count (filled c.args.params.now c.params_are_a_sharing.ensures some) (omega arith)

pub push_next-requires-clause-first : goal.push_next-requires-clause-first
unfolding block_tag
push_next-requires-clause-first c =
    subst (λ (pieces : List (List ℕ)). AreFirstHashes c.args.hashes.now.items (map block_hash pieces))
    (sym (last_blocks_by c.args.params.now c.args.bytes.now _ _ _ c.blocks_size-size.ensures.size c.block_size.ensures.size c.segment_count-count.ensures.count)) c.requires

pub returns-in_err-push_next : goal.returns-in_err-push_next
unfolding block_tag
returns-in_err-push_next c =
    subst (λ (pieces : List (List ℕ)). AreFirstHashes c.push_next.new.hashes.items (map block_hash pieces))
    (last_blocks_by c.args.params.now c.args.bytes.now _ _ _ c.blocks_size-size.ensures.size c.block_size.ensures.size c.segment_count-count.ensures.count) c.push_next.ensures.first

pub returns : goal.returns
unfolding block_tag
returns c =
    subst (λ (pieces : List (List ℕ)). AreFirstHashes c.push_next.new.hashes.items (map block_hash pieces))
    (last_blocks_by c.args.params.now c.args.bytes.now _ _ _ c.blocks_size-size.ensures.size c.block_size.ensures.size c.segment_count-count.ensures.count) c.push_next.ensures.first
