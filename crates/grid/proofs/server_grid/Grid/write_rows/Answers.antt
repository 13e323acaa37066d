use Rattle.std.proofs.Common.{◌≡◌, ◌+◌, ◌++◌, ◌∙◌, suc, List, [], length, refl, subst, ap, sym, arith, Some, Err}
use Rattle.std.proofs.lemmas.List.{length-map}
use Rattle.std.specs.List.{flat_map}
use Rattle.share_store.specs.Shares.{Shares}
use Rattle.grid.specs.GridState.{StoreState, maps_of}
use Rattle.grid.specs.Image.{row_bytes, refused_field}
use Rattle.grid.specs.Rows.{Row, rows_at, rows_below}
use Rattle.grid.specs.Written.{WritesBeginning}
use Rattle.grid.specs.declared.fault.GridFault.TheVariants.{BadImage}
use Rattle.grid.specs.declared.image_layout.Layout.TheVariants.{VersionTwo}
use Rattle.grid.proofs.ImageWrites.{on_err, passed_cause}
use Rattle.grid.proofs.Puts.{calm_after}
use Rattle.grid.proofs.RowsWritten.{written_none, rows_split, written_both, stopped_rows, refused_rows}
use Rattle.grid.proofs.Turns.{leaves_none, leaves_both, unchanged_none, unchanged_then}
use Rattle.grid.proofs.Views.{tell_on_none, tell_on_both, still_none, still_both}
use Rattle.grid.proofs.server_grid.Grid.write_rows.Goals as goal

pub loop-server-preserved : goal.loop-server-preserved
loop-server-preserved g c =
    let inv = c.loop-server.invariant in
    let one = c.in_ok-write_server.ensures in
    let old = c.args.self.now in
    let mid = c.loop-server.self in
    let new = c.write_server.new.self in
    record {
      leaves = leaves_both old mid new inv.leaves one.leaves;
      stamps = one.stamps ∙ inv.stamps;
      calm = λ s. calm_after mid new _ one.leaves one.down s ∙ inv.calm s;
      unchanged = unchanged_then inv.leaves inv.unchanged one.unchanged;
      stand_still = still_both old mid new inv.stand_still one.stand_still;
      told = tell_on_both old mid new inv.told one.told;
      done = (
        inv.done.0 ++ one.ok.0,
        written_both _ _ _ _ inv.done.0 inv.done.1 _ _ one.ok.0 one.ok.1,
        λ all.
            let next : suc c.loop-server.server ≡ c.loop-server.server + 1 = omega arith in
            ap (λ l. l ++ one.ok.0) (inv.done.2 all)
            ∙ ap (λ l. rows_below (maps_of old) c.loop-server.server ++ l) (one.ok.2 (inv.leaves.honest all) ∙ ap (λ (maps : List Shares). rows_at maps c.loop-server.server) (inv.unchanged all).maps)
            ∙ ap (rows_below (maps_of old)) next,
      );
    }

pub returns-clause-ok : goal.returns-clause-ok
returns-clause-ok g c =
    let inv = c.loop-server.invariant in
    let maps = maps_of c.args.self.now in
    let all_servers : c.loop-server.server ≡ length maps =
    omega (arith, c.loop-server-test.false, c.loop-server.auto.server-end, c.servers-server-end.ensures.servers, length-map c.args.self.now.stores (λ (t : StoreState). t.shares)) in
    (inv.done.0, inv.done.1, λ all. inv.done.2 all ∙ ap (rows_below maps) all_servers)

pub returns-in_err-write_server-clause-leaves : goal.returns-in_err-write_server-clause-leaves
returns-in_err-write_server-clause-leaves g c = leaves_both c.args.self.now c.loop-server.self c.write_server.new.self c.loop-server.invariant.leaves c.in_err-write_server.ensures.leaves

pub returns-in_err-write_server-clause-unchanged : goal.returns-in_err-write_server-clause-unchanged
returns-in_err-write_server-clause-unchanged g c = unchanged_then c.loop-server.invariant.leaves c.loop-server.invariant.unchanged c.in_err-write_server.ensures.unchanged

pub returns-in_err-write_server-clause-err : goal.returns-in_err-write_server-clause-err
returns-in_err-write_server-clause-err g c all =
    let inv = c.loop-server.invariant in
    let maps = maps_of c.args.self.now in
    let n = c.loop-server.server in
    let old = g.W.Write.contents c.args.writer.now in
    let mid = g.W.Write.contents c.loop-server.writer in
    let new = g.W.Write.contents c.write_server.new.writer in
    let split = rows_split maps n (omega (arith, c.loop-server-test.true, length-map c.args.self.now.stores (λ (t : StoreState). t.shares))) in
    on_err _ _ (subst (λ (l : List Row). WritesBeginning (flat_map (row_bytes VersionTwo) l) old new)
    (ap (λ l. l ++ (rows_at maps n ++ split.0)) (inv.done.2 all) ∙ sym split.1)
    (stopped_rows _ _ old mid inv.done.0 inv.done.1 new (rows_at maps n) split.0
    (subst (λ (ms : List Shares). WritesBeginning (flat_map (row_bytes VersionTwo) (rows_at ms n)) mid new) (inv.unchanged all).maps (c.in_err-write_server.ensures.err (inv.leaves.honest all)))))

pub returns-in_err-write_server-clause-bad_image : goal.returns-in_err-write_server-clause-bad_image
returns-in_err-write_server-clause-bad_image g c all place is =
    let inv = c.loop-server.invariant in
    let maps = maps_of c.args.self.now in
    let n = c.loop-server.server in
    let split = rows_split maps n (omega (arith, c.loop-server-test.true, length-map c.args.self.now.stores (λ (t : StoreState). t.shares))) in
    let same = passed_cause _ c.in_err-write_server.field-0.0 (BadImage place) c.from_residual.ensures.1 is in
    ap (refused_field c.args.progress.now.place) (split.1 ∙ ap (λ l. l ++ (rows_at maps n ++ split.0)) (sym (inv.done.2 all)))
    ∙ refused_rows _ _ _ _ inv.done.0 inv.done.1 (rows_at maps n) split.0 (Some place)
    (λ more. ap (λ (ms : List Shares). refused_field c.loop-server.progress.place (rows_at ms n ++ more)) (sym (inv.unchanged all).maps) ∙ c.in_err-write_server.ensures.bad_image (inv.leaves.honest all) place (ap Err same) more)

pub returns-in_err-write_server-clause-stand_still : goal.returns-in_err-write_server-clause-stand_still
returns-in_err-write_server-clause-stand_still g c = still_both c.args.self.now c.loop-server.self c.write_server.new.self c.loop-server.invariant.stand_still c.in_err-write_server.ensures.stand_still

pub returns-in_err-write_server-clause-told : goal.returns-in_err-write_server-clause-told
returns-in_err-write_server-clause-told g c = tell_on_both c.args.self.now c.loop-server.self c.write_server.new.self c.loop-server.invariant.told c.in_err-write_server.ensures.told

pub loop-server-init : goal.loop-server-init
loop-server-init g c = record {
  leaves = leaves_none c.args.self.now;
  stamps = refl;
  calm = λ s. refl;
  unchanged = λ all. unchanged_none c.args.self.now;
  stand_still = still_none c.args.self.now;
  told = tell_on_none c.args.self.now;
  done = ([], written_none c.args.progress.now (g.W.Write.contents c.args.writer.now), λ all. refl);
}
