use Rattle.std.proofs.Common.{arith}
use Rattle.gate_flow.proofs.Ends.{line_ends_within}
use Rattle.gate_flow.proofs.part.part_len.Goals as goal

pub returns-then-ends-gt0 : goal.returns-then-ends-gt0
returns-then-ends-gt0 c = record {
  some = omega (c.if-ends-gt0.true, arith);
  within = omega (c.line_ends-ends.ensures, line_ends_within c.args.bytes.now, arith);
  body = λ some. absurd (omega (c.if-of_body-gt0.false, some, arith));
  ends = λ none some. c.line_ends-ends.ensures;
  head = λ none nothing. absurd (omega (c.if-ends-gt0.true, c.line_ends-ends.ensures, nothing, arith));
}
