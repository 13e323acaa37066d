use Rattle.std.proofs.Common.{◌≡◌, refl, arith}
use Rattle.json_tree.specs.Writers.{parts_to_write}
use Rattle.json_tree.proofs.Parted.{all_written}
use Rattle.json_tree.proofs.writer.TextWriter.step.Goals as goal

pub returns-clause-written : goal.returns-clause-written
returns-clause-written c d at =
    let none : parts_to_write c.write_some.new.self ≡ 0 = grind arith in
    all_written c.write_some.new.self _ refl refl refl none d (c.in_ok-write_some.ensures.on d at)

pub returns-clause-bytes : goal.returns-clause-bytes
returns-clause-bytes c =
    let none : parts_to_write c.write_some.new.self ≡ 0 = grind arith in
    let within = c.in_ok-write_some.ensures.bytes in
    (within.0, within.1, omega (arith, none, within.2), within.3)
