use Rattle.std.proofs.Common.{◌≡◌, ◌-◌, List, length, None}
use Rattle.json.specs.Token.{Token}
use Rattle.children_reader.specs.Taking.{IsTakenFrom}
use Rattle.children_reader.proofs.taking.Taking.take_some.Given as goal

abbrev pub invariant-loop-i : goal.invariant-loop-i
invariant-loop-i l = record {
  none : l.self.child ≡ None;
  taken : (ts : List Token) → IsTakenFrom ts l.fn.self → IsTakenFrom ts l.self;
  fewer : length l.self.left.entries ≡ length l.fn.self.left.entries - l.i;
}
