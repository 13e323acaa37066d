use Rattle.std.proofs.Common.{map}
use Rattle.std.specs.Rc.{rc_slice_items}
use Rattle.share_repair.proofs.Keeping.{keeps_then, keeps_put}
use Rattle.share_repair.proofs.Putting.{puts_put, puts_after}
use Rattle.share_repair.proofs.mending.put_back.Goals as goal

pub returns-clause-kept : goal.returns-clause-kept
returns-clause-kept g c honest =
    let still = c.in_ok-clear.ensures.leaves.honest honest in
    keeps_then c.args.index c.args.grid.now c.clear.new.grid c.put_all.new.self (c.in_ok-clear.ensures.kept honest)
    (keeps_put c.put_all.result c.args.index (map rc_slice_items c.args.shares.now) c.clear.new.grid c.put_all.new.self (c.put_all.ensures.ok still) c.put_all.ensures.err still)

pub returns-clause-puts : goal.returns-clause-puts
returns-clause-puts g c honest =
    let still = c.in_ok-clear.ensures.leaves.honest honest in
    puts_after c.args.index (map rc_slice_items c.args.shares.now) c.args.grid.now c.clear.new.grid c.put_all.new.self (c.in_ok-clear.ensures.puts honest) c.in_ok-clear.ensures.leaves
    (puts_put c.put_all.result c.args.index (map rc_slice_items c.args.shares.now) c.clear.new.grid c.put_all.new.self (c.put_all.ensures.ok still) c.put_all.ensures.err still)
