use Rattle.std.proofs.Common.{rules, ◌≡◌, [], take, length, sym}
use Rattle.grid.specs.GridState.{maps_of, room_at, IsHonest}
use Rattle.grid.specs.Rows.{rows_of}
use Rattle.grid.specs.ImageReading.{image_said}
use Rattle.grid.specs.ImageSteps.{Reads}
use Rattle.grid.proofs.ImageSteps.{front_of}
use Rattle.grid.proofs.ImageRuns.{named, not_named, bad_front, no_front, reads_passed}
use Rattle.grid.proofs.Views.{tell_on_none}
use Rattle.grid.proofs.server_grid.Grid.take_image.Goals as goal

pub returns-in_err-came-clause-reads : goal.returns-in_err-came-clause-reads
returns-in_err-came-clause-reads g c =
    let old = c.args.self.now in
    let good = IsHonest old × (rows_of (maps_of old) ≡ []) in
    reads_passed _ _ (image_said (length old.stores)) (room_at old) good (rows_of (maps_of old)) _ c.in_err-came.field-0.0 c.from_residual.ensures.1
    (no_front (g.R.Read.remaining c.args.reader.now) (g.R.Read.remaining c.fill.new.reader) (image_said (length old.stores)) c.in_err-came.field-0.0 (room_at old) good (rows_of (maps_of old))
    (λ good. good.1) c.in_err-came.ensures.refusals)

pub returns-in-Some-clause-reads : goal.returns-in-Some-clause-reads
returns-in-Some-clause-reads g c =
    let old = c.args.self.now in
    let good = IsHonest old × (rows_of (maps_of old) ≡ []) in
    let front = take c.in_ok-came.came c.fill.new.buffer in
    let came = front_of (g.R.Read.remaining c.args.reader.now) (g.R.Read.remaining c.fill.new.reader) 8 c.in_ok-came.came c.fill.new.buffer (search rules) c.in_ok-came.ensures.told in
    named (g.R.Read.remaining c.args.reader.now) (g.R.Read.remaining c.fill.new.reader) (length old.stores) front
    (λ said. Reads said c.take_shares.result (room_at c.take_shares.new.self) good (rows_of (maps_of c.take_shares.new.self)) (g.R.Read.remaining c.take_shares.new.reader))
    c.in-Some.layout came (sym c.in-Some.ensures) c.take_shares.ensures.reads

pub returns-in-None-clause-reads : goal.returns-in-None-clause-reads
returns-in-None-clause-reads g c =
    let old = c.args.self.now in
    let good = IsHonest old × (rows_of (maps_of old) ≡ []) in
    let front = take c.in_ok-came.came c.fill.new.buffer in
    let came = front_of (g.R.Read.remaining c.args.reader.now) (g.R.Read.remaining c.fill.new.reader) 8 c.in_ok-came.came c.fill.new.buffer (search rules) c.in_ok-came.ensures.told in
    bad_front (g.R.Read.remaining c.args.reader.now) (g.R.Read.remaining c.fill.new.reader) (image_said (length old.stores)) 0 (room_at old) good (rows_of (maps_of old)) (λ good. good.1)
    (not_named (g.R.Read.remaining c.args.reader.now) (g.R.Read.remaining c.fill.new.reader) (length old.stores) front came (sym c.in-None.ensures))

pub returns-in_err-came-clause-told : goal.returns-in_err-came-clause-told
returns-in_err-came-clause-told g c = tell_on_none c.args.self.now

pub returns-in-None-clause-told : goal.returns-in-None-clause-told
returns-in-None-clause-told g c = tell_on_none c.args.self.now
