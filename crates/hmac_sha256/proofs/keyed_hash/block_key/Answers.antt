use Rattle.std.proofs.Common.{◌++◌, length, drop, replicate, ap, ◌∙◌}
use Rattle.hmac_sha256.proofs.BlockLemmas.{block_of_long, block_of_short}
use Rattle.hmac_sha256.proofs.keyed_hash.block_key.Goals as goal

pub returns-then-key-gt-BLOCK_SIZE : goal.returns-then-key-gt-BLOCK_SIZE
returns-then-key-gt-BLOCK_SIZE c =
    block_of_long c.args.key.now c.copy_from_slice.new.self c.if-key-gt-BLOCK_SIZE.true
    (c.copy_from_slice.ensures.after ∙ c.digest.ensures) c.copy_from_slice.ensures.len

pub returns-else-key-gt-BLOCK_SIZE : goal.returns-else-key-gt-BLOCK_SIZE
returns-else-key-gt-BLOCK_SIZE c =
    ap (λ x. x ++ drop (length c.args.key.now) (replicate 64 0)) c.copy_from_slice-else-key-gt-BLOCK_SIZE.ensures.after
    ∙ block_of_short c.args.key.now c.if-key-gt-BLOCK_SIZE.false
