use Rattle.std.proofs.Common.{arith}
use Rattle.http_edge.proofs.ReadingLemmas.{read_more}
use Rattle.http_edge.proofs.chunks.read_chunks.Goals as goal

pub loop-at-preserved : goal.loop-at-preserved
loop-at-preserved c = record {
  within = (let some = c.in_ok-step.ensures.some in let all = c.split_at.ensures.back_len in omega arith);
  place = rw c.in-Next.is at c.in_ok-step.ensures.place;
  read = λ front long. rw c.in-Next.is at (read_more front c.args.content.now.items c.loop-at.content.items c.read_some.new.content.items c.args.place c.loop-at.place c.args.bytes.now c.split_at.result.1.now c.loop-at.at c.in_ok-step.taken c.in_ok-step.step
      (c.loop-at.invariant.read front long) c.split_at.ensures.back (c.in_ok-step.ensures.read c.loop-at.at front long));
}

pub returns-in-Ended-clause-read : goal.returns-in-Ended-clause-read
returns-in-Ended-clause-read c = λ front long.
    rw c.in-Ended.is at (read_more front c.args.content.now.items c.loop-at.content.items c.read_some.new.content.items c.args.place c.loop-at.place c.args.bytes.now c.split_at.result.1.now c.loop-at.at c.in_ok-step.taken c.in_ok-step.step
    (c.loop-at.invariant.read front long) c.split_at.ensures.back (c.in_ok-step.ensures.read c.loop-at.at front long))

pub returns-in-Broken-clause-read : goal.returns-in-Broken-clause-read
returns-in-Broken-clause-read c = λ front long.
    rw c.in-Broken.is at (read_more front c.args.content.now.items c.loop-at.content.items c.read_some.new.content.items c.args.place c.loop-at.place c.args.bytes.now c.split_at.result.1.now c.loop-at.at c.in_ok-step.taken c.in_ok-step.step
    (c.loop-at.invariant.read front long) c.split_at.ensures.back (c.in_ok-step.ensures.read c.loop-at.at front long))

pub returns-in-Ended-clause-place : goal.returns-in-Ended-clause-place
returns-in-Ended-clause-place c = rw c.in-Ended.is at c.in_ok-step.ensures.place

pub returns-in-Ended-clause-taken : goal.returns-in-Ended-clause-taken
returns-in-Ended-clause-taken c =
    let some = c.in_ok-step.ensures.some in
    let all = c.split_at.ensures.back_len in
    (omega arith, omega arith)

pub returns-in-Broken-clause-taken : goal.returns-in-Broken-clause-taken
returns-in-Broken-clause-taken c =
    let some = c.in_ok-step.ensures.some in
    let all = c.split_at.ensures.back_len in
    (omega arith, omega arith)
