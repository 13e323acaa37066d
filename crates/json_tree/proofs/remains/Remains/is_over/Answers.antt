use Rattle.std.proofs.Common.{◌<◌, length, arith}
use Rattle.json_tree.proofs.Held.{parts_open}
use Rattle.json_tree.proofs.remains.Remains.is_over.Goals as goal

pub returns-then-is_none-clause-some : goal.returns-then-is_none-clause-some
returns-then-is_none-clause-some c some =
    let many : 0 < length c.args.self.now.opened.items = grind arith in
    omega (arith, parts_open c.args.self.now.opened.items many)
