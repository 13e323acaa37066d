use Rattle.std.proofs.Common.{◌<◌, length, arith}
use Rattle.json_tree.proofs.Parted.{rests_parts}
use Rattle.json_tree.proofs.writer.TextWriter.is_over.Goals as goal

pub returns-then-is_none-clause-some : goal.returns-then-is_none-clause-some
returns-then-is_none-clause-some c some =
    let many : 0 < length c.args.self.now.rests.items = grind arith in
    omega (arith, rests_parts c.args.self.now.rests.items many)
