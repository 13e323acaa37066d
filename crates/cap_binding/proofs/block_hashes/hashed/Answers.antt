use Rattle.std.proofs.Common.{◌≡◌, ℕ, List, map, ap, ◌∙◌, subst, Vec, Global}
use Rattle.std.specs.Prelude.{IfOk}
use Rattle.std.proofs.lemmas.Simd.{map-map}
use Rattle.erasure.specs.Given.{contents_of}
use Rattle.share_codec.specs.Tags.{block_tag, block_hash}
use Rattle.cap_binding.proofs.Cuts.{hashed_pieces}
use Rattle.cap_binding.proofs.block_hashes.hashed.Goals as goal

pub returns : goal.returns
unfolding block_tag
returns c =
    let items = λ (b : Vec ℕ Global). b.items in
    subst (λ (hs : List (List ℕ)). IfOk c.tagged_all.result (λ hashes. hashes.items ≡ hs))
    (hashed_pieces block_hash c.deref.result.now (map items c.args.blocks.now) (ap contents_of c.deref.ensures.value ∙ c.in_ok-slices.ensures) ∙ map-map block_hash items c.args.blocks.now)
    c.tagged_all.ensures
