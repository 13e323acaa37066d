use Rattle.std.proofs.Common.{[]}
use Rattle.hmac_sha256.proofs.BlockLemmas.{hash_of_hashes}
use Rattle.hmac_sha256.proofs.keyed_hash.hmac.Goals as goal

pub returns : goal.returns
returns c =
    hash_of_hashes c.args.key.now c.args.message.now c.block_key-block.result c.added_to_each.result c.finalize-digest.result c.added_to_each-2.result c.finalize.result
    c.block_key-block.ensures c.added_to_each.ensures
    (c.finalize-digest.ensures _ (c.update-2.ensures _ (c.update.ensures [] c.new-inner.ensures)))
    c.added_to_each-2.ensures
    (c.finalize.ensures _ (c.update-4.ensures _ (c.update-3.ensures [] c.new-outer.ensures)))
