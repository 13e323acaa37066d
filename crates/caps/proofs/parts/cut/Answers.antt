use Rattle.caps.proofs.ParserLemmas.{cut_parts}
use Rattle.caps.proofs.parts.cut.Goals as goal

pub returns : goal.returns
returns c = cut_parts c.args.text.now c.split_at_byte.result c.split_at_byte.ensures
