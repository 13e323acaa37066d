use Rattle.std.proofs.Common.{List, ℕ, map, sym, subst}
use Rattle.std.specs.Rc.{rc_slice_items}
use Rattle.share_codec.specs.Tags.{block_hash}
use Rattle.share_codec.specs.Maker.{AreFirstHashes}
use Rattle.share_codec.specs.Readings.{last_blocks}
use Rattle.share_codec.proofs.Steps.{none_first}
use Rattle.share_codec.proofs.share_reading.ShareReading.new.Goals as goal

pub invariant_of-result : goal.invariant_of-result
invariant_of-result c =
    let all : List (List ℕ) = map block_hash (last_blocks c.args.params.now (rc_slice_items c.args.bytes)) in
    subst (λ (hs : List (List ℕ)). AreFirstHashes hs all) (sym c.new.ensures.items) (none_first all)
