use Rattle.std.proofs.Common.{refl, ◌∙◌}
use Rattle.grid.proofs.Turns.{leaves_none, leaves_both, unchanged_none, unchanged_then}
use Rattle.grid.proofs.Views.{tell_on_none, tell_on_both, still_none, still_both}
use Rattle.grid.proofs.server_grid.Grid.prefetch_all.Goals as goal

pub loop-server-init : goal.loop-server-init
loop-server-init g c = record {
  leaves = leaves_none c.args.self.now;
  stamps = refl;
  unchanged = λ all. unchanged_none c.args.self.now;
  stand_still = still_none c.args.self.now;
  told = tell_on_none c.args.self.now;
}

pub loop-server-preserved : goal.loop-server-preserved
loop-server-preserved g c =
    let inv = c.loop-server.invariant in
    let one = c.prefetch_at.ensures in
    record {
      leaves = leaves_both c.args.self.now c.loop-server.self c.prefetch_at.new.self inv.leaves one.leaves;
      stamps = one.stamps ∙ inv.stamps;
      unchanged = unchanged_then inv.leaves inv.unchanged one.unchanged;
      stand_still = still_both c.args.self.now c.loop-server.self c.prefetch_at.new.self inv.stand_still one.stand_still;
      told = tell_on_both c.args.self.now c.loop-server.self c.prefetch_at.new.self inv.told one.told;
    }
