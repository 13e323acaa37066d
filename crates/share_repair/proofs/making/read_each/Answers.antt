use Rattle.std.proofs.Common.{sym, subst}
use Rattle.std.specs.Prelude.{All}
use Rattle.std.specs.Rc.{rc_slice_items}
use Rattle.std.proofs.lemmas.List.Elements.{All-push}
use Rattle.share_codec.specs.GoodShare.{IsCutInBlocks}
use Rattle.share_repair.specs.Files.{Numbered, IsShareOf}
use Rattle.share_repair.proofs.Givens.{one_holds, read_more}
use Rattle.share_repair.proofs.making.read_each.Goals as goal

pub returns-in-Err-clause-unlike : goal.returns-in-Err-clause-unlike
returns-in-Err-clause-unlike c other all =
    c.in-Err.ensures.unlike other
    (one_holds rc_slice_items (λ (g : Numbered). IsShareOf (record { params = c.args.params.now; ueb = c.args.ueb.now }) g.0 g.1) c.args.given.now c.loop-number.number-index c.loop-number-item.result c.loop-number-test.true c.loop-number-item.is all)

pub loop-number-preserved : goal.loop-number-preserved
loop-number-preserved c = record {
  read = read_more rc_slice_items (record { params = c.args.params.now; ueb = c.args.ueb.now }) c.args.given.now c.loop-number.number-index c.loop-number-item.result c.loop-number.shares.items c.push.new.self.items c.in-Ok.share
      c.loop-number-test.true c.loop-number-item.is c.in-Ok.ensures.good c.loop-number.invariant.read c.in_ok-push-in-Ok.ensures.items;
  cut = subst (All (IsCutInBlocks c.args.params.now)) (sym c.in_ok-push-in-Ok.ensures.items)
      (All-push (IsCutInBlocks c.args.params.now) c.loop-number.shares.items c.in-Ok.share c.loop-number.invariant.cut c.in-Ok.ensures.cut);
}
