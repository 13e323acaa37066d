use Rattle.std.proofs.Common.{◌≡◌, ◌-◌, length}
use Rattle.serde_json.specs.Data.{Members}
use Rattle.children_reader.specs.Kept.{AreBefore}
use Rattle.children_reader.proofs.naming.name_some.Given as goal

abbrev pub invariant-loop-i : goal.invariant-loop-i
invariant-loop-i l = record {
  fewer : length l.left.entries ≡ length l.fn.left.entries - l.i;
  before : (ms : Members) → AreBefore l.fn.children.entries l.fn.left.entries ms → AreBefore l.children.entries l.left.entries ms;
}
