use Rattle.std.proofs.Common.{◌≡◌, ◌<◌, ◌^◌, ◌∙◌, ℕ, List, All, Option, None, length, Some, Err, arith, ap, refl, subst, sym}
use Rattle.std.proofs.lemmas.List.{length-map}
use Rattle.std.specs.List.{flat_map}
use Rattle.std.specs.Io.KnownBytes.{Appends}
use Rattle.share_store.specs.Shares.{Shares}
use Rattle.grid.specs.GridState.{GridState, StoreState, maps_of, IsHonest}
use Rattle.grid.specs.Found.{entries_at}
use Rattle.grid.specs.Rows.{Row, rows_of}
use Rattle.grid.specs.Image.{image, image_head, row_bytes, refused_field, refused_place}
use Rattle.grid.specs.Written.{WritesBeginning}
use Rattle.grid.specs.declared.fault.GridFault.TheVariants.{BadImage}
use Rattle.grid.specs.declared.image_layout.Layout.TheVariants.{VersionTwo}
use Rattle.grid.proofs.Calls.{some_at}
use Rattle.grid.proofs.ImageWrites.{on_err, passed_cause, place_in_fields, stopped_before, stopped_behind}
use Rattle.grid.proofs.RowFacts.{can_be_written}
use Rattle.grid.proofs.RowsWritten.{image_written, image_fits}
use Rattle.grid.proofs.Turns.{leaves_both, unchanged_then}
use Rattle.grid.proofs.Views.{tell_on_both, still_both}
use Rattle.grid.proofs.server_grid.Grid.write_image.Given.{Over}
use Rattle.grid.proofs.server_grid.Grid.write_image.Goals as goal
use Rattle.grid.proofs.server_grid.Grid.write_image.Goals.{After-write_whole}

module _ (g : Over) (c : After-write_whole g) where
  abbrev old : Option (List ℕ)
  old = g.W.Write.contents c.args.writer.now

  abbrev mid : Option (List ℕ)
  mid = g.W.Write.contents c.write_whole.new.writer

  -- the front of the image of so many shares
  abbrev front_of : ℕ → List ℕ
  front_of shares = image_head VersionTwo (length c.args.self.now.stores) shares

  front_made : c.deref.result.now ≡ front_of c.in_ok-shares.shares
  front_made =
      c.deref.ensures.value ∙ c.in_ok-put_image_head.ensures ∙ ap (λ servers. image_head VersionTwo servers c.in_ok-shares.shares) (c.servers.ensures.servers ∙ c.in_ok-shares.ensures.leaves.servers)

  front_written : Appends old mid c.deref.result.now → Appends old mid (front_of c.in_ok-shares.shares)
  front_written written = subst (Appends old mid) front_made written

-- where all was written: the rows that the grid gave, behind the image's front
module _ (g : Over) (c : goal.After-drop-head-2 g) where
  abbrev at : After-write_whole g
  at = (goal.at.returns-clause-counted g c).After-write_whole

  abbrev rows : List Row
  rows = c.in_ok-write_rows.ensures.ok.0

  abbrev new : Option (List ℕ)
  new = g.W.Write.contents c.write_rows.new.writer

  front : Appends (old g at) (mid g at) (front_of g at c.in_ok-shares.shares)
  front = front_written g at c.in_ok-write_whole.ensures.ok

  fits : refused_place rows ≡ None
  fits = image_fits (length c.args.self.now.stores) c.in_ok-shares.shares _ _ (old g at) (mid g at) new rows front c.in_ok-write_rows.ensures.ok.1 refl (omega arith) refl (omega arith)

  written : Appends (old g at) new (image (length c.args.self.now.stores) rows)
  written = image_written (length c.args.self.now.stores) c.in_ok-shares.shares _ _ (old g at) (mid g at) new rows front c.in_ok-write_rows.ensures.ok.1 refl (omega arith)

  -- over honest stores they are the rows that stand
  standing : IsHonest c.args.self.now → rows ≡ rows_of (maps_of c.args.self.now)
  standing all = c.in_ok-write_rows.ensures.ok.2 (c.in_ok-shares.ensures.leaves.honest all) ∙ ap rows_of (c.in_ok-shares.ensures.unchanged all).maps

pub returns-clause-counted : goal.returns-clause-counted
returns-clause-counted g c = (rows g c, fits g c, written g c)

pub returns-clause-ok : goal.returns-clause-ok
returns-clause-ok g c all = subst (λ rows. Appends (g.W.Write.contents c.args.writer.now) (new g c) (image (length c.args.self.now.stores) rows)) (standing g c all) (written g c)

pub returns-clause-rows : goal.returns-clause-rows
returns-clause-rows g c all =
    let maps = maps_of c.args.self.now in
    let is : rows g c ≡ rows_of maps = standing g c all in
    let done = c.in_ok-write_rows.ensures.ok.1 in
    let store = g.S.Store in
    let some = subst (λ (grid : GridState). IsHonest grid → (s : ℕ) → All (λ e. 0 < length e.1) (entries_at (maps_of grid) s)) c.self.view_is
    (some_at store.shares store.room store.held store.failures store.honest store.history g.met.S.Store.none_empty c.self.inside.stores.items) in
    can_be_written maps (length c.args.self.now.stores) (length-map c.args.self.now.stores (λ (t : StoreState). t.shares)) (omega (arith, c.servers.ensures.few, c.servers.ensures.servers, c.in_ok-shares.ensures.leaves.servers))
    (subst (λ rows. refused_place rows ≡ None) is (fits g c))
    (subst (λ (rows : List Row). All (λ row. length row.1.0.0 ≡ 16) rows) is done.sized) (subst (λ (rows : List Row). All (λ row. length row.1.1 < 2 ^ 64) rows) is done.short) (some all)

pub returns-clause-leaves : goal.returns-clause-leaves
returns-clause-leaves g c = leaves_both c.args.self.now c.count_shares.new.self c.write_rows.new.self c.in_ok-shares.ensures.leaves c.in_ok-write_rows.ensures.leaves

pub returns-then-progress-gt0-clause-leaves : goal.returns-then-progress-gt0-clause-leaves
returns-then-progress-gt0-clause-leaves g c = leaves_both c.args.self.now c.count_shares.new.self c.write_rows.new.self c.in_ok-shares.ensures.leaves c.in_ok-write_rows.ensures.leaves

pub returns-in_err-write_rows-clause-leaves : goal.returns-in_err-write_rows-clause-leaves
returns-in_err-write_rows-clause-leaves g c = leaves_both c.args.self.now c.count_shares.new.self c.write_rows.new.self c.in_ok-shares.ensures.leaves c.in_err-write_rows.ensures.leaves

pub returns-in_err-write_whole-clause-err : goal.returns-in_err-write_whole-clause-err
returns-in_err-write_whole-clause-err g c all =
    let at = (goal.at.returns-in_err-write_whole-clause-err g c).After-write_whole in
    let rows = rows_of (maps_of c.args.self.now) in
    on_err _ _ (stopped_before (old g at) (mid g at) (front_of g at (length rows)) (flat_map (row_bytes VersionTwo) rows)
    (subst (λ l. WritesBeginning l (old g at) (mid g at)) (front_made g at ∙ ap (front_of g at) (c.in_ok-shares.ensures.found all)) c.in_err-write_whole.ensures.err))

pub returns-in_err-write_rows-clause-err : goal.returns-in_err-write_rows-clause-err
returns-in_err-write_rows-clause-err g c all =
    let at = (goal.at.returns-in_err-write_rows-clause-err g c).After-write_whole in
    let new = g.W.Write.contents c.write_rows.new.writer in
    let rows = rows_of (maps_of c.args.self.now) in
    on_err _ _ (stopped_behind (old g at) (mid g at) new (front_of g at (length rows)) (flat_map (row_bytes VersionTwo) rows)
    (subst (λ n. Appends (old g at) (mid g at) (front_of g at n)) (c.in_ok-shares.ensures.found all) (front_written g at c.in_ok-write_whole.ensures.ok))
    (subst (λ (ms : List Shares). WritesBeginning (flat_map (row_bytes VersionTwo) (rows_of ms)) (mid g at) new) (c.in_ok-shares.ensures.unchanged all).maps (c.in_err-write_rows.ensures.err (c.in_ok-shares.ensures.leaves.honest all))))

pub returns-in_err-write_rows-clause-bad_image : goal.returns-in_err-write_rows-clause-bad_image
returns-in_err-write_rows-clause-bad_image g c all place is =
    let maps = maps_of c.args.self.now in
    let few : c.in_ok-shares.shares < 2 ^ 64 = omega arith in
    let same = passed_cause _ c.in_err-write_rows.field-0.0 (BadImage place) c.from_residual-in_err-write_rows.ensures.1 is in
    place_in_fields (rows_of maps) (Some place) (omega (arith, few, c.in_ok-shares.ensures.found all))
    (ap (λ ms. refused_field 20 (rows_of ms)) (sym (c.in_ok-shares.ensures.unchanged all).maps) ∙ c.in_err-write_rows.ensures.bad_image (c.in_ok-shares.ensures.leaves.honest all) place (ap Err same))

pub returns-clause-stand_still : goal.returns-clause-stand_still
returns-clause-stand_still g c = still_both c.args.self.now c.count_shares.new.self c.write_rows.new.self c.in_ok-shares.ensures.stand_still c.in_ok-write_rows.ensures.stand_still

pub returns-clause-told : goal.returns-clause-told
returns-clause-told g c = tell_on_both c.args.self.now c.count_shares.new.self c.write_rows.new.self c.in_ok-shares.ensures.told c.in_ok-write_rows.ensures.told

pub returns-then-progress-gt0-clause-stand_still : goal.returns-then-progress-gt0-clause-stand_still
returns-then-progress-gt0-clause-stand_still g c = still_both c.args.self.now c.count_shares.new.self c.write_rows.new.self c.in_ok-shares.ensures.stand_still c.in_ok-write_rows.ensures.stand_still

pub returns-then-progress-gt0-clause-told : goal.returns-then-progress-gt0-clause-told
returns-then-progress-gt0-clause-told g c = tell_on_both c.args.self.now c.count_shares.new.self c.write_rows.new.self c.in_ok-shares.ensures.told c.in_ok-write_rows.ensures.told

pub returns-in_err-write_rows-clause-stand_still : goal.returns-in_err-write_rows-clause-stand_still
returns-in_err-write_rows-clause-stand_still g c = still_both c.args.self.now c.count_shares.new.self c.write_rows.new.self c.in_ok-shares.ensures.stand_still c.in_err-write_rows.ensures.stand_still

pub returns-in_err-write_rows-clause-told : goal.returns-in_err-write_rows-clause-told
returns-in_err-write_rows-clause-told g c = tell_on_both c.args.self.now c.count_shares.new.self c.write_rows.new.self c.in_ok-shares.ensures.told c.in_err-write_rows.ensures.told

pub returns-clause-unchanged : goal.returns-clause-unchanged
returns-clause-unchanged g c = unchanged_then c.in_ok-shares.ensures.leaves c.in_ok-shares.ensures.unchanged c.in_ok-write_rows.ensures.unchanged

pub returns-then-progress-gt0-clause-unchanged : goal.returns-then-progress-gt0-clause-unchanged
returns-then-progress-gt0-clause-unchanged g c = unchanged_then c.in_ok-shares.ensures.leaves c.in_ok-shares.ensures.unchanged c.in_ok-write_rows.ensures.unchanged

pub returns-in_err-write_rows-clause-unchanged : goal.returns-in_err-write_rows-clause-unchanged
returns-in_err-write_rows-clause-unchanged g c = unchanged_then c.in_ok-shares.ensures.leaves c.in_ok-shares.ensures.unchanged c.in_err-write_rows.ensures.unchanged

pub returns-then-progress-gt0-clause-err : goal.returns-then-progress-gt0-clause-err
returns-then-progress-gt0-clause-err g c all =
    let is = c.in_ok-write_rows.ensures.ok.2 (c.in_ok-shares.ensures.leaves.honest all) ∙ ap rows_of (c.in_ok-shares.ensures.unchanged all).maps in
    absurd (omega (arith, c.in_ok-write_rows.ensures.ok.1.counted, c.in_ok-shares.ensures.found all, ap length is))
