use Rattle.std.proofs.Common.{◌+◌, ◌≤◌, length, take, drop, ap, ◌∙◌, arith}
use Rattle.web_replies.proofs.Parts.{part_length, part_of_part}
use Rattle.web_replies.proofs.part.Part.narrow.Goals as goal

pub returns : goal.returns
returns c =
    let count = c.self.inside.count in
    let skip = c.self.inside.skip in
    let left = c.self.inside.download.left in
    let within : c.args.skip + c.args.count ≤ count = omega (arith, c.requires, ap length c.self.view_is, part_length count skip left c.self.invariant.0) in
    c.new.ensures ∙ part_of_part skip count c.args.skip c.args.count left within ∙ ap (λ bytes. take c.args.count (drop c.args.skip bytes)) c.self.view_is
