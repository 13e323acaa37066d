use Rattle.std.proofs.Common.{refl, sym}
use Rattle.children_reader.proofs.NoObjects.{none_made}
use Rattle.children_reader.proofs.Stages.{no_text_made}
use Rattle.children_reader.proofs.text_maker.opened.Goals as goal

pub returns-in-None-clause-made : goal.returns-in-None-clause-made
returns-in-None-clause-made c = sym (no_text_made c.args.json.now (none_made c.args.json.now (c.in-None.ensures.none refl)))
