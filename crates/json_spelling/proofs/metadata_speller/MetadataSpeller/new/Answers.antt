use Rattle.json_stack.specs.Machine.{state_after}
use Rattle.json_spelling.proofs.metadata_speller.MetadataSpeller.new.Goals as goal

pub returns : goal.returns
unfolding state_after
returns c text = c.new.ensures.begun c.within.ensures text
