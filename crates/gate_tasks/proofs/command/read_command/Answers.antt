use Rattle.std.proofs.Common.{Some, None, sym, ◌∙◌}
use Rattle.gate_tasks.proofs.Commands.{looked_up, looked_up_alone}
use Rattle.gate_tasks.proofs.command.read_command.Goals as goal

pub returns-in_default : goal.returns-in_default
returns-in_default c = c.read_word.ensures ∙ looked_up_alone c.args.line.now c.in_default.ensures

pub returns-in_default-read_verb : goal.returns-in_default-read_verb
returns-in_default-read_verb c =
    looked_up c.args.line.now c.in-Some.word.now c.in-Some.arguments.now None c.in-Some.ensures (sym c.in_default-read_verb.is ∙ c.read_verb.ensures)

pub returns : goal.returns
returns c =
    c.in_ok-command.ensures
    ∙ looked_up c.args.line.now c.in-Some.word.now c.in-Some.arguments.now (Some c.in-Some-read_verb.verb) c.in-Some.ensures (sym c.in-Some-read_verb.is ∙ c.read_verb.ensures)
