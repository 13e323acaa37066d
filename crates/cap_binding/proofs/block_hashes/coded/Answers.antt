use Rattle.std.proofs.Common.{◌≡◌, ◌+◌, ◌++◌, ℕ, List, ap, ◌∙◌, refl, Vec, Global}
use Rattle.erasure.specs.Blocks.{block_of}
use Rattle.erasure.specs.Given.{contents_of}
use Rattle.cap_binding.proofs.Cuts.{made_more}
use Rattle.cap_binding.proofs.block_hashes.coded.Goals as goal

pub loop-number-preserved : goal.loop-number-preserved
loop-number-preserved c =
    let primary : List (List ℕ) = contents_of c.args.primary.now in
    let block : c.encode_block_into.new.bytes.items ≡ block_of primary c.loop-number.number =
    c.in_ok-encode_block_into.ensures.block ∙ ap (λ bs. bs ++ block_of primary c.loop-number.number) c.new-block.ensures.items in
    made_more (λ (b : Vec ℕ Global). b.items) (block_of primary) c.loop-number.blocks.items c.push.new.self.items c.encode_block_into.new.bytes c.loop-number.number (c.loop-number.number + 1)
    c.loop-number.invariant c.in_ok-push.ensures.items block refl
