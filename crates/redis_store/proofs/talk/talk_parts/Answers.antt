use Rattle.std.proofs.Common.{◌++◌, take}
use Rattle.resp.specs.Command.{line_end}
use Rattle.redis_store.proofs.Talks.{more_came, whole_bulk, cut_front}
use Rattle.redis_store.proofs.talk.talk_parts.Goals as goal

pub loop-preserved : goal.loop-preserved
loop-preserved g c =
    let part = c.in_ok-hear.ensures.heard in
    more_came _ _ _ _ c.loop.came.items part.0 _ c.loop.invariant part.2 part.1

pub returns-in-Some-clause-exchanged : goal.returns-in-Some-clause-exchanged
returns-in-Some-clause-exchanged g c =
    let came = c.loop.came.items in
    let start = c.in-Some.start in
    let content = c.in_ok-content.content in
    let rest = c.in_ok-content.ensures.heard in
    let sound = rw c.deref.ensures.value at c.in-Some.ensures.sound in (
      take start came ++ content ++ line_end,
      sound.1 content rest.0,
      whole_bulk _ _ _ _ came (take start came) _ content rest.1.0 c.loop.invariant rest.1.2
          (cut_front start came c.deref-in-Some.result.now c.deref-in-Some.ensures.value) rest.1.1,
    )
