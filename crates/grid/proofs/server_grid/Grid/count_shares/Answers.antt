use Rattle.std.proofs.Common.{◌≡◌, ◌<◌, ◌≤◌, ◌+◌, ◌^◌, ◌∙◌, List, length, Some, ap, arith, refl}
use Rattle.std.proofs.lemmas.List.{length-map}
use Rattle.share_store.specs.Shares.{Shares}
use Rattle.grid.specs.GridState.{StoreState, maps_of}
use Rattle.grid.specs.Found.{entries_at}
use Rattle.grid.specs.Rows.{rows_below}
use Rattle.grid.proofs.Puts.{calm_after}
use Rattle.grid.proofs.RowsWritten.{count_next, too_many}
use Rattle.grid.proofs.Turns.{leaves_none, leaves_both, unchanged_none, unchanged_then}
use Rattle.grid.proofs.Views.{tell_on_none, tell_on_both, still_none, still_both}
use Rattle.grid.proofs.server_grid.Grid.count_shares.Goals as goal

pub loop-server-preserved : goal.loop-server-preserved
loop-server-preserved g c =
    let inv = c.loop-server.invariant in
    let one = c.in_ok-here.ensures in
    let old = c.args.self.now in
    let mid = c.loop-server.self in
    let new = c.count_at.new.self in
    record {
      leaves = leaves_both old mid new inv.leaves one.leaves;
      stamps = one.stamps ∙ inv.stamps;
      calm = λ s. calm_after mid new _ one.leaves one.down s ∙ inv.calm s;
      unchanged = unchanged_then inv.leaves inv.unchanged one.unchanged;
      stand_still = still_both old mid new inv.stand_still one.stand_still;
      told = tell_on_both old mid new inv.told one.told;
      counted = λ all.
          let here : c.in_ok-here.here ≡ length (entries_at (maps_of old) c.loop-server.server) =
          one.found (inv.leaves.honest all) ∙ ap (λ (maps : List Shares). length (entries_at maps c.loop-server.server)) (inv.unchanged all).maps in
          omega (arith, here, inv.counted all, count_next (maps_of old) c.loop-server.server);
    }

pub returns-in_default-clause-bad_image : goal.returns-in_default-clause-bad_image
returns-in_default-clause-bad_image g c all place is =
    let inv = c.loop-server.invariant in
    let maps = maps_of c.args.self.now in
    let n = c.loop-server.server in
    let twelve : 12 ≡ place = cc in
    let here : c.in_ok-here.here ≡ length (entries_at maps n) =
    c.in_ok-here.ensures.found (inv.leaves.honest all) ∙ ap (λ (ms : List Shares). length (entries_at ms n)) (inv.unchanged all).maps in
    let not_few : c.loop-server.count + c.in_ok-here.here < 2 ^ 64 → ⊥ = c.in_default.ensures in
    let many : 2 ^ 64 ≤ length (rows_below maps n) + length (entries_at maps n) = grind (arith, not_few, here, inv.counted all) in
    too_many maps n (omega (arith, c.loop-server-test.true, length-map c.args.self.now.stores (λ (t : StoreState). t.shares))) many ∙ ap Some twelve

pub returns-in_err-here-clause-leaves : goal.returns-in_err-here-clause-leaves
returns-in_err-here-clause-leaves g c = leaves_both c.args.self.now c.loop-server.self c.count_at.new.self c.loop-server.invariant.leaves c.in_err-here.ensures.leaves

pub returns-in_err-here-clause-stand_still : goal.returns-in_err-here-clause-stand_still
returns-in_err-here-clause-stand_still g c = still_both c.args.self.now c.loop-server.self c.count_at.new.self c.loop-server.invariant.stand_still c.in_err-here.ensures.stand_still

pub returns-in_err-here-clause-told : goal.returns-in_err-here-clause-told
returns-in_err-here-clause-told g c = tell_on_both c.args.self.now c.loop-server.self c.count_at.new.self c.loop-server.invariant.told c.in_err-here.ensures.told

pub returns-in_default-clause-stand_still : goal.returns-in_default-clause-stand_still
returns-in_default-clause-stand_still g c = still_both c.args.self.now c.loop-server.self c.count_at.new.self c.loop-server.invariant.stand_still c.in_ok-here.ensures.stand_still

pub returns-in_default-clause-told : goal.returns-in_default-clause-told
returns-in_default-clause-told g c = tell_on_both c.args.self.now c.loop-server.self c.count_at.new.self c.loop-server.invariant.told c.in_ok-here.ensures.told

pub loop-server-init : goal.loop-server-init
loop-server-init g c = record {
  leaves = leaves_none c.args.self.now;
  stamps = refl;
  calm = λ s. refl;
  unchanged = λ all. unchanged_none c.args.self.now;
  stand_still = still_none c.args.self.now;
  told = tell_on_none c.args.self.now;
  counted = λ all. refl;
}

pub returns-in_err-here-clause-unchanged : goal.returns-in_err-here-clause-unchanged
returns-in_err-here-clause-unchanged g c = unchanged_then c.loop-server.invariant.leaves c.loop-server.invariant.unchanged c.in_err-here.ensures.unchanged

pub returns-in_default-clause-leaves : goal.returns-in_default-clause-leaves
returns-in_default-clause-leaves g c = leaves_both c.args.self.now c.loop-server.self c.count_at.new.self c.loop-server.invariant.leaves c.in_ok-here.ensures.leaves

pub returns-in_default-clause-unchanged : goal.returns-in_default-clause-unchanged
returns-in_default-clause-unchanged g c = unchanged_then c.loop-server.invariant.leaves c.loop-server.invariant.unchanged c.in_ok-here.ensures.unchanged
