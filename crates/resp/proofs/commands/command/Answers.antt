use Rattle.std.proofs.Common.{refl}
use Rattle.resp.proofs.Printed.{command_is}
use Rattle.resp.proofs.commands.command.Goals as goal

pub returns : goal.returns
returns c = command_is c.args.words.now _ (rw (c.in_ok-put_bulks.ensures, c.in_ok-put_line.ensures, c.in_ok-bytes.ensures.items) refl)
