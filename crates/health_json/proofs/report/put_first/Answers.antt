use Rattle.std.proofs.Common.{◌≡◌, ◌<◌, ◌^◌, decimal, rules, arith}
use Rattle.std.proofs.lemmas.Result.{on_ok_weaker}
use Rattle.health_json.proofs.Sharemap.{first_put}
use Rattle.health_json.proofs.report.put_first.Goals as goal

pub returns : goal.returns
returns c =
    let below : c.args.number < 2 ^ 64 = (let range = c.ranges.number.fits in omega arith) in
    let key : c.as_bytes.result.now ≡ decimal c.args.number = search rules in
    let digits : c.as_bytes-2.result.now ≡ decimal c.args.server = search rules in
    on_ok_weaker c.put_all.result (first_put c.args.end.now _ _ c.args.server c.args.number _ _ below key digits) c.put_all.ensures
