use Rattle.std.proofs.Common.{◌≡◌, ◌-◌, length}
use Rattle.children_reader.proofs.text_maker.drop_some.Given as goal

abbrev pub invariant-loop-i : goal.invariant-loop-i
invariant-loop-i o l = length l.left.entries ≡ length l.fn.left.entries - l.i
