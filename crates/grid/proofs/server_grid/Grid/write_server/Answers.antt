use Rattle.std.proofs.Common.{◌≡◌, ◌<◌, ◌+◌, ◌^◌, ◌++◌, ◌∙◌, length, refl, subst, List, [], ◌∷◌, ap, sym, arith, map, drop, Some, None, Err, slice_get, append_assoc}
use Rattle.std.proofs.lemmas.List.{take_all}
use Rattle.std.specs.List.{flat_map}
use Rattle.std.specs.Option.{option_map}
use Rattle.share_store.specs.Stored.{entry_of}
use Rattle.share_store.specs.Shares.{Shares, ShareEntry}
use Rattle.grid.specs.GridState.{maps_of}
use Rattle.grid.specs.Found.{entries_at}
use Rattle.grid.specs.Image.{row_bytes, refused_field}
use Rattle.grid.specs.Rows.{Row}
use Rattle.grid.specs.Written.{WritesBeginning}
use Rattle.grid.specs.declared.fault.GridFault.TheVariants.{BadImage}
use Rattle.grid.specs.declared.image_layout.Layout.TheVariants.{VersionTwo}
use Rattle.grid.proofs.Gather.{past_end}
use Rattle.grid.proofs.ImageWrites.{on_err, passed_cause, stopped_before}
use Rattle.grid.proofs.Puts.{calm_after}
use Rattle.grid.proofs.RowLists.{map_take_more}
use Rattle.grid.proofs.RowsWritten.{written_none, mapped_parts, mapped_split, written_both, stopped_rows, stopped_here, refused_rows}
use Rattle.grid.proofs.Turns.{leaves_none, leaves_both, unchanged_none, unchanged_then}
use Rattle.grid.proofs.Views.{tell_on_none, tell_on_both, still_none, still_both}
use Rattle.grid.proofs.server_grid.Grid.write_server.Goals as goal

pub loop-at-preserved : goal.loop-at-preserved
loop-at-preserved g c =
    let server = c.args.server in
    let inv = c.loop-at.invariant in
    let one = c.in_ok-share_at.ensures in
    let share = c.in-Some.share in
    let row : ShareEntry → Row = λ e. (server, e) in
    record {
      leaves = leaves_both c.args.self.now c.loop-at.self c.share_at.new.self inv.leaves one.leaves;
      stamps = one.stamps ∙ inv.stamps;
      calm = λ s. calm_after c.loop-at.self c.share_at.new.self _ one.leaves one.down s ∙ inv.calm s;
      unchanged = unchanged_then inv.leaves inv.unchanged one.unchanged;
      stand_still = still_both c.args.self.now c.loop-at.self c.share_at.new.self inv.stand_still one.stand_still;
      told = tell_on_both c.args.self.now c.loop-at.self c.share_at.new.self inv.told one.told;
      few = λ all some. subst (λ (maps : List Shares). length (entries_at maps server) < 2 ^ 64) (inv.unchanged all).maps (one.few (inv.leaves.honest all));
      done = (
        inv.done.0 ++ row (entry_of share) ∷ [],
        written_both _ _ _ _ inv.done.0 inv.done.1 _ _ (row (entry_of share) ∷ []) c.in_ok-write_row-in-Some.ensures.ok,
        λ all.
            let es = entries_at (maps_of c.args.self.now) server in
            let at : slice_get es c.loop-at.at ≡ Some (entry_of share) = sym (sym (ap (option_map entry_of) c.in-Some.is) ∙ one.found (inv.leaves.honest all) ∙ ap (λ maps. slice_get (entries_at maps server) c.loop-at.at) (inv.unchanged all).maps) in
            ap (λ l. l ++ row (entry_of share) ∷ []) (inv.done.2 all) ∙ sym (map_take_more row es c.loop-at.at (entry_of share) at),
      );
    }

pub returns-clause-ok : goal.returns-clause-ok
returns-clause-ok g c =
    let inv = c.loop-at.invariant in
    let row : ShareEntry → Row = λ e. (c.args.server, e) in (
      inv.done.0,
      inv.done.1,
      λ all. (
          let es = entries_at (maps_of c.args.self.now) c.args.server in
          let few = inv.few all (omega (arith, c.loop-at-test.false)) in
          inv.done.2 all ∙ ap (map row) (take_all c.loop-at.at es (omega (arith, few, c.loop-at-test.false)))),
    )

pub returns-in-None-clause-ok : goal.returns-in-None-clause-ok
returns-in-None-clause-ok g c =
    let inv = c.loop-at.invariant in
    let server = c.args.server in
    let row : ShareEntry → Row = λ e. (server, e) in (
      inv.done.0,
      inv.done.1,
      λ all. (
          let es = entries_at (maps_of c.args.self.now) server in
          let none : None ≡ slice_get es c.loop-at.at = sym (ap (option_map entry_of) c.in-None.is) ∙ c.in_ok-share_at.ensures.found (inv.leaves.honest all) ∙ ap (λ maps. slice_get (entries_at maps server) c.loop-at.at) (inv.unchanged all).maps in
          inv.done.2 all ∙ ap (map row) (take_all c.loop-at.at es (past_end es c.loop-at.at none))),
    )

pub returns-in_err-share_at-clause-err : goal.returns-in_err-share_at-clause-err
returns-in_err-share_at-clause-err g c all =
    let inv = c.loop-at.invariant in
    let row : ShareEntry → Row = λ e. (c.args.server, e) in
    let es = entries_at (maps_of c.args.self.now) c.args.server in
    let old = g.W.Write.contents c.args.writer.now in
    let new = g.W.Write.contents c.loop-at.writer in
    let rest = map row (drop c.loop-at.at es) in
    on_err _ _ (subst (λ (l : List Row). WritesBeginning (flat_map (row_bytes VersionTwo) l) old new)
    (ap (λ l. l ++ rest) (inv.done.2 all) ∙ sym (mapped_parts row es c.loop-at.at))
    (stopped_here _ _ old new inv.done.0 inv.done.1 rest))

pub returns-in_err-write_row-in-Some-clause-err : goal.returns-in_err-write_row-in-Some-clause-err
returns-in_err-write_row-in-Some-clause-err g c all =
    let inv = c.loop-at.invariant in
    let server = c.args.server in
    let share = c.in-Some.share in
    let row : ShareEntry → Row = λ e. (server, e) in
    let es = entries_at (maps_of c.args.self.now) server in
    let old = g.W.Write.contents c.args.writer.now in
    let mid = g.W.Write.contents c.loop-at.writer in
    let new = g.W.Write.contents c.write_row.new.writer in
    let rest = map row (drop (c.loop-at.at + 1) es) in
    let at : slice_get es c.loop-at.at ≡ Some (entry_of share) = sym (sym (ap (option_map entry_of) c.in-Some.is) ∙ c.in_ok-share_at.ensures.found (inv.leaves.honest all) ∙ ap (λ maps. slice_get (entries_at maps server) c.loop-at.at) (inv.unchanged all).maps) in
    on_err _ _ (subst (λ (l : List Row). WritesBeginning (flat_map (row_bytes VersionTwo) l) old new)
    (ap (λ l. l ++ (row (entry_of share) ∷ rest)) (inv.done.2 all) ∙ sym (mapped_split row es c.loop-at.at (entry_of share) at))
    (stopped_rows _ _ old mid inv.done.0 inv.done.1 new (row (entry_of share) ∷ []) rest
    (stopped_before mid new (row_bytes VersionTwo (row (entry_of share))) [] c.in_err-write_row-in-Some.ensures.err)))

pub returns-in_err-write_row-in-Some-clause-bad_image : goal.returns-in_err-write_row-in-Some-clause-bad_image
returns-in_err-write_row-in-Some-clause-bad_image g c all place is more =
    let inv = c.loop-at.invariant in
    let server = c.args.server in
    let share = c.in-Some.share in
    let row : ShareEntry → Row = λ e. (server, e) in
    let es = entries_at (maps_of c.args.self.now) server in
    let rest = map row (drop (c.loop-at.at + 1) es) in
    let at : slice_get es c.loop-at.at ≡ Some (entry_of share) = sym (sym (ap (option_map entry_of) c.in-Some.is) ∙ c.in_ok-share_at.ensures.found (inv.leaves.honest all) ∙ ap (λ maps. slice_get (entries_at maps server) c.loop-at.at) (inv.unchanged all).maps) in
    let same = passed_cause _ c.in_err-write_row-in-Some.field-0.0 (BadImage place) c.from_residual-in_err-write_row-in-Some.ensures.1 is in
    let split : map row es ++ more ≡ inv.done.0 ++ ((row (entry_of share) ∷ []) ++ (rest ++ more)) =
    ap (λ l. l ++ more) (mapped_split row es c.loop-at.at (entry_of share) at ∙ ap (λ l. l ++ (row (entry_of share) ∷ rest)) (sym (inv.done.2 all))) ∙ append_assoc inv.done.0 (row (entry_of share) ∷ rest) more in
    ap (refused_field c.args.progress.now.place) split
    ∙ refused_rows _ _ _ _ inv.done.0 inv.done.1 (row (entry_of share) ∷ []) (rest ++ more) (Some place) (λ after. c.in_err-write_row-in-Some.ensures.bad_image place (ap Err same) after)

pub returns-in_err-share_at-clause-leaves : goal.returns-in_err-share_at-clause-leaves
returns-in_err-share_at-clause-leaves g c = leaves_both c.args.self.now c.loop-at.self c.share_at.new.self c.loop-at.invariant.leaves c.in_err-share_at.ensures.leaves

pub returns-in_err-share_at-clause-unchanged : goal.returns-in_err-share_at-clause-unchanged
returns-in_err-share_at-clause-unchanged g c = unchanged_then c.loop-at.invariant.leaves c.loop-at.invariant.unchanged c.in_err-share_at.ensures.unchanged

pub returns-in-None-clause-leaves : goal.returns-in-None-clause-leaves
returns-in-None-clause-leaves g c = leaves_both c.args.self.now c.loop-at.self c.share_at.new.self c.loop-at.invariant.leaves c.in_ok-share_at.ensures.leaves

pub returns-in-None-clause-unchanged : goal.returns-in-None-clause-unchanged
returns-in-None-clause-unchanged g c = unchanged_then c.loop-at.invariant.leaves c.loop-at.invariant.unchanged c.in_ok-share_at.ensures.unchanged

pub returns-in_err-write_row-in-Some-clause-leaves : goal.returns-in_err-write_row-in-Some-clause-leaves
returns-in_err-write_row-in-Some-clause-leaves g c = leaves_both c.args.self.now c.loop-at.self c.share_at.new.self c.loop-at.invariant.leaves c.in_ok-share_at.ensures.leaves

pub returns-in_err-write_row-in-Some-clause-unchanged : goal.returns-in_err-write_row-in-Some-clause-unchanged
returns-in_err-write_row-in-Some-clause-unchanged g c = unchanged_then c.loop-at.invariant.leaves c.loop-at.invariant.unchanged c.in_ok-share_at.ensures.unchanged

pub returns-in_err-share_at-clause-stand_still : goal.returns-in_err-share_at-clause-stand_still
returns-in_err-share_at-clause-stand_still g c = still_both c.args.self.now c.loop-at.self c.share_at.new.self c.loop-at.invariant.stand_still c.in_err-share_at.ensures.stand_still

pub returns-in_err-share_at-clause-told : goal.returns-in_err-share_at-clause-told
returns-in_err-share_at-clause-told g c = tell_on_both c.args.self.now c.loop-at.self c.share_at.new.self c.loop-at.invariant.told c.in_err-share_at.ensures.told

pub returns-in-None-clause-stand_still : goal.returns-in-None-clause-stand_still
returns-in-None-clause-stand_still g c = still_both c.args.self.now c.loop-at.self c.share_at.new.self c.loop-at.invariant.stand_still c.in_ok-share_at.ensures.stand_still

pub returns-in-None-clause-told : goal.returns-in-None-clause-told
returns-in-None-clause-told g c = tell_on_both c.args.self.now c.loop-at.self c.share_at.new.self c.loop-at.invariant.told c.in_ok-share_at.ensures.told

pub returns-in_err-write_row-in-Some-clause-stand_still : goal.returns-in_err-write_row-in-Some-clause-stand_still
returns-in_err-write_row-in-Some-clause-stand_still g c = still_both c.args.self.now c.loop-at.self c.share_at.new.self c.loop-at.invariant.stand_still c.in_ok-share_at.ensures.stand_still

pub returns-in_err-write_row-in-Some-clause-told : goal.returns-in_err-write_row-in-Some-clause-told
returns-in_err-write_row-in-Some-clause-told g c = tell_on_both c.args.self.now c.loop-at.self c.share_at.new.self c.loop-at.invariant.told c.in_ok-share_at.ensures.told

pub loop-at-init : goal.loop-at-init
loop-at-init g c = record {
  leaves = leaves_none c.args.self.now;
  stamps = refl;
  calm = λ s. refl;
  unchanged = λ all. unchanged_none c.args.self.now;
  stand_still = still_none c.args.self.now;
  told = tell_on_none c.args.self.now;
  few = λ all some. absurd (omega (arith, some));
  done = ([], written_none c.args.progress.now (g.W.Write.contents c.args.writer.now), λ all. refl);
}
