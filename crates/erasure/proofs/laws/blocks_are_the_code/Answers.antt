use Rattle.erasure.proofs.Coding.{are_coded, block_of_is_block, is_block_only, block_of_primary}
use Rattle.erasure.proofs.laws.blocks_are_the_code.Goals as goal

pub returns : goal.returns
returns c = record {
  coded = are_coded;
  each = λ size i primary. block_of_is_block size primary i;
  only = λ size i primary block. is_block_only size primary i block;
  first = λ size j primary. block_of_primary size primary j;
}
