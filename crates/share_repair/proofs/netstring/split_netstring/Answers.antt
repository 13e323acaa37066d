use Rattle.std.proofs.Common.{◌<◌, ◌^◌, length, arith, sym}
use Rattle.share_repair.proofs.Fronts.{never, length-netstring}
use Rattle.share_repair.proofs.netstring.split_netstring.Goals as goal

pub returns-in-Err : goal.returns-in-Err
returns-in-Err c value rest e =
    let shorter = length-netstring value rest c.args.bytes.now e in
    let short : length c.args.bytes.now < 2 ^ 64 = omega arith in
    never _ _ _ (sym c.in-Err.ensures.exact) (c.netstrings_are_read_back.ensures.reads_back c.args.bytes.now value rest 0 (omega arith) e)
