use Rattle.std.proofs.Common.{take, ap, ◌∙◌}
use Rattle.tag_hash.specs.Tagged.{tagged16}
use Rattle.tag_hash.proofs.hashes.tagged16.Goals as goal

pub returns : goal.returns
unfolding tagged16
returns c = c.first_half.ensures ∙ ap (λ d. take 16 d) c.tagged.ensures
