use Rattle.std.proofs.Common.{List, ℕ, sym, subst}
use Rattle.share_codec.specs.Shares.{segment_hashes}
use Rattle.share_codec.specs.Maker.{AreFirstHashes}
use Rattle.share_codec.proofs.Steps.{none_first}
use Rattle.share_codec.proofs.crypttext_reading.CrypttextReading.new.Goals as goal

pub invariant_of-result : goal.invariant_of-result
invariant_of-result c =
    let all : List (List ℕ) = segment_hashes c.args.params.now c.args.bytes.items in
    (c.requires.some, c.requires.size, subst (λ (hs : List (List ℕ)). AreFirstHashes hs all) (sym c.new.ensures.items) (none_first all))
