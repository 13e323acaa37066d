use Rattle.std.proofs.Common.{ap, ◌∙◌}
use Rattle.dir_codec.specs.Parts.{cut_netstring, first_netstring}
use Rattle.dir_codec.proofs.Cuts.{parts_are}
use Rattle.dir_codec.proofs.parts.first_netstring.Goals as goal

pub returns-in-Ok : goal.returns-in-Ok
unfolding first_netstring
returns-in-Ok c = parts_are c.args.bytes.now c.in-Ok.span.start c.in-Ok.span.len c.in-Ok.next ∙ ap (cut_netstring c.args.bytes.now) c.in-Ok.ensures.exact

pub returns-in-Err : goal.returns-in-Err
unfolding first_netstring
returns-in-Err c = ap (cut_netstring c.args.bytes.now) c.in-Err.ensures.exact
