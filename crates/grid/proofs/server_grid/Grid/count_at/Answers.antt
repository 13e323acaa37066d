use Rattle.std.proofs.Common.{◌≡◌, ◌<◌, ◌^◌, ◌∙◌, length, List, subst, ap, sym, arith, refl, None, Some, slice_get}
use Rattle.std.specs.Option.{option_map}
use Rattle.share_store.specs.Stored.{entry_of}
use Rattle.share_store.specs.Shares.{Shares}
use Rattle.grid.specs.GridState.{maps_of}
use Rattle.grid.specs.Found.{entries_at}
use Rattle.grid.proofs.Gather.{past_end}
use Rattle.grid.proofs.Puts.{calm_after}
use Rattle.grid.proofs.RowsWritten.{in_list}
use Rattle.grid.proofs.Turns.{leaves_none, leaves_both, unchanged_none, unchanged_then}
use Rattle.grid.proofs.Views.{tell_on_none, tell_on_both, still_none, still_both}
use Rattle.grid.proofs.server_grid.Grid.count_at.Goals as goal

pub loop-at-preserved : goal.loop-at-preserved
loop-at-preserved g c =
    let server = c.args.server in
    let inv = c.loop-at.invariant in
    let one = c.in_ok-share_at.ensures in
    record {
      leaves = leaves_both c.args.self.now c.loop-at.self c.share_at.new.self inv.leaves one.leaves;
      stamps = one.stamps ∙ inv.stamps;
      calm = λ s. calm_after c.loop-at.self c.share_at.new.self _ one.leaves one.down s ∙ inv.calm s;
      unchanged = unchanged_then inv.leaves inv.unchanged one.unchanged;
      stand_still = still_both c.args.self.now c.loop-at.self c.share_at.new.self inv.stand_still one.stand_still;
      told = tell_on_both c.args.self.now c.loop-at.self c.share_at.new.self inv.told one.told;
      few = λ all some. subst (λ (maps : List Shares). length (entries_at maps server) < 2 ^ 64) (inv.unchanged all).maps (one.few (inv.leaves.honest all));
      stand = λ all.
          let es = entries_at (maps_of c.args.self.now) server in
          let at : slice_get es c.loop-at.at ≡ Some (entry_of c.in-Some._counted) = sym (sym (ap (option_map entry_of) c.in-Some.is) ∙ one.found (inv.leaves.honest all) ∙ ap (λ maps. slice_get (entries_at maps server) c.loop-at.at) (inv.unchanged all).maps) in
          omega (arith, in_list es c.loop-at.at (entry_of c.in-Some._counted) at);
    }

pub returns-in_err-share_at-clause-leaves : goal.returns-in_err-share_at-clause-leaves
returns-in_err-share_at-clause-leaves g c = leaves_both c.args.self.now c.loop-at.self c.share_at.new.self c.loop-at.invariant.leaves c.in_err-share_at.ensures.leaves

pub returns-in_err-share_at-clause-stand_still : goal.returns-in_err-share_at-clause-stand_still
returns-in_err-share_at-clause-stand_still g c = still_both c.args.self.now c.loop-at.self c.share_at.new.self c.loop-at.invariant.stand_still c.in_err-share_at.ensures.stand_still

pub returns-in_err-share_at-clause-told : goal.returns-in_err-share_at-clause-told
returns-in_err-share_at-clause-told g c = tell_on_both c.args.self.now c.loop-at.self c.share_at.new.self c.loop-at.invariant.told c.in_err-share_at.ensures.told

pub returns-in-None-clause-stand_still : goal.returns-in-None-clause-stand_still
returns-in-None-clause-stand_still g c = still_both c.args.self.now c.loop-at.self c.share_at.new.self c.loop-at.invariant.stand_still c.in_ok-share_at.ensures.stand_still

pub returns-in-None-clause-told : goal.returns-in-None-clause-told
returns-in-None-clause-told g c = tell_on_both c.args.self.now c.loop-at.self c.share_at.new.self c.loop-at.invariant.told c.in_ok-share_at.ensures.told

pub loop-at-init : goal.loop-at-init
loop-at-init g c = record {
  leaves = leaves_none c.args.self.now;
  stamps = refl;
  calm = λ s. refl;
  unchanged = λ all. unchanged_none c.args.self.now;
  stand_still = still_none c.args.self.now;
  told = tell_on_none c.args.self.now;
  few = λ all some. absurd (omega (arith, some));
  stand = λ all. omega arith;
}

pub returns-in-None-clause-found : goal.returns-in-None-clause-found
returns-in-None-clause-found g c all =
    let inv = c.loop-at.invariant in
    let es = entries_at (maps_of c.args.self.now) c.args.server in
    let none : None ≡ slice_get es c.loop-at.at = sym (ap (option_map entry_of) c.in-None.is) ∙ c.in_ok-share_at.ensures.found (inv.leaves.honest all) ∙ ap (λ maps. slice_get (entries_at maps c.args.server) c.loop-at.at) (inv.unchanged all).maps in
    omega (arith, past_end es c.loop-at.at none, inv.stand all)

pub returns-in_err-share_at-clause-unchanged : goal.returns-in_err-share_at-clause-unchanged
returns-in_err-share_at-clause-unchanged g c = unchanged_then c.loop-at.invariant.leaves c.loop-at.invariant.unchanged c.in_err-share_at.ensures.unchanged

pub returns-in-None-clause-leaves : goal.returns-in-None-clause-leaves
returns-in-None-clause-leaves g c = leaves_both c.args.self.now c.loop-at.self c.share_at.new.self c.loop-at.invariant.leaves c.in_ok-share_at.ensures.leaves

pub returns-in-None-clause-unchanged : goal.returns-in-None-clause-unchanged
returns-in-None-clause-unchanged g c = unchanged_then c.loop-at.invariant.leaves c.loop-at.invariant.unchanged c.in_ok-share_at.ensures.unchanged
