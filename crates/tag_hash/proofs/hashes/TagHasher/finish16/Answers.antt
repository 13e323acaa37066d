use Rattle.std.proofs.Common.{take, ap, ◌∙◌}
use Rattle.tag_hash.specs.Tagged.{tagged16}
use Rattle.tag_hash.proofs.hashes.TagHasher.finish16.Goals as goal

pub returns : goal.returns
unfolding tagged16
returns c = λ tag value taken. c.first_half.ensures ∙ ap (λ d. take 16 d) (c.finish.ensures tag value taken)
