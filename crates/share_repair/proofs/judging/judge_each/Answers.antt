use Rattle.std.proofs.Common.{sym, subst}
use Rattle.std.specs.Prelude.{All}
use Rattle.std.specs.Rc.{rc_slice_items}
use Rattle.std.proofs.lemmas.List.Elements.{All-push}
use Rattle.share_repair.specs.Judged.{IsJudged}
use Rattle.share_repair.proofs.Keeping.{same_more}
use Rattle.share_repair.proofs.judging.judge_each.Goals as goal

pub loop-server-preserved : goal.loop-server-preserved
loop-server-preserved c = record {
  same = same_more rc_slice_items c.args.found.now c.loop-server.server-index c.loop-server-item.result c.loop-server.judged.items c.push.new.self.items c.in_ok-judge.field-0 c.loop-server-test.true c.loop-server-item.is
      (λ i. (c.in_ok-judge.ensures.place.0 i, c.in_ok-judge.ensures.place.1 i, c.in_ok-judge.ensures.bytes i)) c.loop-server.invariant.same c.in_ok-push.ensures.items;
  told = subst (All IsJudged) (sym c.in_ok-push.ensures.items)
      (All-push IsJudged c.loop-server.judged.items c.in_ok-judge.field-0 c.loop-server.invariant.told c.in_ok-judge.ensures.told);
}
