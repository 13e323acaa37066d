use Rattle.std.proofs.Common.{arith}
use Rattle.json_tree.proofs.writer.TextWriter.write_some.Goals as goal

pub loop-i-preserved : goal.loop-i-preserved
loop-i-preserved c = record {
  writing = λ d at. c.in_ok-write_part.ensures.on d (c.loop-i.invariant.writing d at);
  parts = omega (arith, c.in_ok-write_part.ensures.one);
  bytes = omega arith;
}

pub returns-then-is_over-clause-on : goal.returns-then-is_over-clause-on
returns-then-is_over-clause-on c = c.loop-i.invariant.writing

pub returns-then-is_over-clause-fewer : goal.returns-then-is_over-clause-fewer
returns-then-is_over-clause-fewer c = λ some. omega (arith, some, c.is_over.ensures.none c.if-is_over.true)

pub returns-then-is_over-clause-few : goal.returns-then-is_over-clause-few
returns-then-is_over-clause-few c = omega arith

pub returns-then-is_over-clause-bytes : goal.returns-then-is_over-clause-bytes
returns-then-is_over-clause-bytes c = (c.loop-i.self, c.loop-i.invariant.writing, omega arith, c.loop-i.invariant.bytes)

pub returns-then-is_over-clause-none_more : goal.returns-then-is_over-clause-none_more
returns-then-is_over-clause-none_more c = omega arith

pub returns-then-len-full-clause-on : goal.returns-then-len-full-clause-on
returns-then-len-full-clause-on c = λ d at. c.in_ok-write_part.ensures.on d (c.loop-i.invariant.writing d at)

pub returns-then-len-full-clause-fewer : goal.returns-then-len-full-clause-fewer
returns-then-len-full-clause-fewer c = λ some. omega (arith, some, c.in_ok-write_part.ensures.one)

pub returns-then-len-full-clause-few : goal.returns-then-len-full-clause-few
returns-then-len-full-clause-few c = omega (arith, c.in_ok-write_part.ensures.one)

pub returns-then-len-full-clause-bytes : goal.returns-then-len-full-clause-bytes
returns-then-len-full-clause-bytes c = (c.loop-i.self, c.loop-i.invariant.writing, omega (arith, c.in_ok-write_part.ensures.one), c.loop-i.invariant.bytes)

pub returns-then-len-full-clause-none_more : goal.returns-then-len-full-clause-none_more
returns-then-len-full-clause-none_more c = omega (arith, c.in_ok-write_part.ensures.one)

pub returns-clause-on : goal.returns-clause-on
returns-clause-on c = c.loop-i.invariant.writing

pub returns-clause-fewer : goal.returns-clause-fewer
returns-clause-fewer c = λ some. omega (arith, some)

pub returns-clause-few : goal.returns-clause-few
returns-clause-few c = omega arith

pub returns-clause-bytes : goal.returns-clause-bytes
returns-clause-bytes c = (c.loop-i.self, c.loop-i.invariant.writing, omega arith, c.loop-i.invariant.bytes)

pub returns-clause-none_more : goal.returns-clause-none_more
returns-clause-none_more c = omega arith
