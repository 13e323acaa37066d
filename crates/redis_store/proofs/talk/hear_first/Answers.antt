use Rattle.std.proofs.Common.{rules, ◌≡◌, ◌+◌, take, arith, ap, ◌∙◌}
use Rattle.redis_store.proofs.Talks.{heard_behind, grown_front}
use Rattle.redis_store.proofs.talk.hear_first.Goals as goal

pub returns-clause-heard : goal.returns-clause-heard
returns-clause-heard g c =
    let old = c.args.came.now.items in
    let start = c.len-start.result in
    let items = c.as_mut_slice.result.now in
    let front : take start items ≡ old =
    ap (take start) (c.as_mut_slice.ensures.value ∙ c.in_ok-resize.ensures.items) ∙ grown_front old _ start (start + 65536) (search rules) (omega arith) in (
      take c.in-Ok.count c.read.new.room,
      c.truncate.ensures.items ∙ heard_behind start c.in-Ok.count _ old items c.read.new.room _ _ front (search rules) c.in-Ok.ensures.bound (search rules),
      c.in-Ok.ensures.heard,
    )
