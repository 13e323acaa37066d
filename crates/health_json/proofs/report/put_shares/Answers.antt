use Rattle.std.proofs.Common.{refl}
use Rattle.health_json.specs.Checks.{bad_share_text}
use Rattle.json_view.proofs.Commas.{one_more}
use Rattle.health_json.proofs.report.put_shares.Goals as goal

pub loop-at-preserved : goal.loop-at-preserved
loop-at-preserved c =
    one_more (bad_share_text c.args.index.now) c.args.shares.now c.loop-at.at (0, 0) _ _ _ _ _ c.loop-at-test.true refl c.loop-at.invariant c.in_ok-put_comma.ensures c.in_ok-put_share.ensures
