use Rattle.std.proofs.Common.{ap, ◌∙◌}
use Rattle.tag_hash.specs.Tagged.{tagged}
use Rattle.merkle.specs.Node.{empty_leaf, empty_leaf_tag}
use Rattle.merkle.proofs.trees.empty_leaf.Goals as goal

pub returns : goal.returns
unfolding empty_leaf empty_leaf_tag
returns c = c.tagged.ensures ∙ ap (tagged empty_leaf_tag) (c.as_bytes.ensures ∙ c.new-text.ensures)
