use Rattle.resp.proofs.Printed.{command_spells}
use Rattle.resp.proofs.laws.commands_are_replies.Goals as goal

pub returns : goal.returns
returns c = λ limits words line bulk elements count all. command_spells limits words line bulk elements count all
