use Rattle.std.proofs.Common.{sym, subst}
use Rattle.share_codec.specs.Tags.{segment_tag}
use Rattle.share_codec.specs.Maker.{AreFirstHashes}
use Rattle.share_codec.proofs.Cuts.{filled, segments_fit}
use Rattle.share_codec.proofs.ReadingSteps.{segment_hashes_by}
use Rattle.share_codec.proofs.crypttext_reading.hash_next.Goals as goal

pub push_next-requires-clause-fits : goal.push_next-requires-clause-fits
push_next-requires-clause-fits c =
    segments_fit c.args.params.now _ _ _ c.segment_size.ensures.size c.segment_count-count.ensures.count c.requires.size (filled c.args.params.now c.params_are_a_sharing.ensures c.requires.some)

pub push_next-requires-clause-first : goal.push_next-requires-clause-first
unfolding segment_tag
push_next-requires-clause-first c =
    subst (AreFirstHashes c.args.hashes.now.items)
    (sym (segment_hashes_by c.args.params.now c.args.bytes.now _ _ c.segment_size.ensures.size c.segment_count-count.ensures.count)) c.requires.first

pub returns-in_err-push_next : goal.returns-in_err-push_next
unfolding segment_tag
returns-in_err-push_next c =
    subst (AreFirstHashes c.push_next.new.hashes.items)
    (segment_hashes_by c.args.params.now c.args.bytes.now _ _ c.segment_size.ensures.size c.segment_count-count.ensures.count) c.push_next.ensures.first

pub returns : goal.returns
unfolding segment_tag
returns c =
    subst (AreFirstHashes c.push_next.new.hashes.items)
    (segment_hashes_by c.args.params.now c.args.bytes.now _ _ c.segment_size.ensures.size c.segment_count-count.ensures.count) c.push_next.ensures.first
