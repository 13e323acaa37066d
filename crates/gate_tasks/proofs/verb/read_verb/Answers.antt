use Rattle.std.proofs.Common.{rules, tests, ◌∙◌}
use Rattle.std.specs.Str.{bytes_eq}
use Rattle.std.proofs.lemmas.Iterator.{YieldsList-from_slice}
use Rattle.std.proofs.lemmas.Iterator.Search.{find_from_yields_List}
use Rattle.gate_tasks.specs.Command.{name_of, verbs}
use Rattle.gate_tasks.proofs.verb.read_verb.Goals as goal

pub returns : goal.returns
returns c =
    c.copied.ensures
    ∙ find_from_yields_List (λ known. bytes_eq (name_of known) c.args.word.now) _ _ _ c.find.ensures.ran
    (YieldsList-from_slice verbs (cc)) (λ x b q k. search (rules, tests))
