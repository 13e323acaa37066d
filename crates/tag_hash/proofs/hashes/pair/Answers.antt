use Rattle.std.proofs.Common.{[]}
use Rattle.tag_hash.specs.Pair.{pair, pair_text}
use Rattle.tag_hash.specs.Tagged.{tagged, tagged_text}
use Rattle.tag_hash.proofs.hashes.pair.Goals as goal

pub returns : goal.returns
unfolding pair pair_text tagged tagged_text
returns c =
    let t = c.args.tag.now in
    c.finish.ensures t _ (c.update_netstring-2.ensures t _ (c.update_netstring.ensures t [] c.new-hasher.ensures))
