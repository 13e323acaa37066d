use Rattle.std.proofs.Common.{refl}
use Rattle.resp.proofs.Printed.{head_is}
use Rattle.resp.proofs.commands.command_head.Goals as goal

pub returns : goal.returns
returns c = λ last long.
    head_is c.args.words.now _ last c.args.len (rw (c.in_ok-put_line-2.ensures, c.in_ok-put_bulks.ensures, c.in_ok-put_line.ensures, c.in_ok-bytes.ensures.items) refl) long
