use Rattle.std.proofs.Common.{rules, ◌≡◌, ◌+◌, ◌∙◌, [], take, length, sym, ap}
use Rattle.grid.specs.GridState.{maps_of, room_at, IsHonest}
use Rattle.grid.specs.Rows.{rows_of}
use Rattle.grid.specs.Layout.{wide}
use Rattle.grid.specs.ImageHeads.{shares_said}
use Rattle.grid.specs.ImageReading.{said_in}
use Rattle.grid.specs.ImageSteps.{Reads}
use Rattle.grid.proofs.ImageSteps.{front_of}
use Rattle.grid.proofs.ImageRuns.{counted, not_counted, bad_front, no_front, reads_passed}
use Rattle.grid.proofs.Views.{tell_on_none}
use Rattle.grid.proofs.server_grid.Grid.take_shares.Goals as goal

pub returns-in_err-came-clause-reads : goal.returns-in_err-came-clause-reads
returns-in_err-came-clause-reads g c =
    let old = c.args.self.now in
    let good = IsHonest old × (rows_of (maps_of old) ≡ []) in
    reads_passed _ _ (said_in c.args.layout (length old.stores)) (room_at old) good (rows_of (maps_of old)) _ c.in_err-came.field-0.0 c.from_residual.ensures.1
    (no_front (g.R.Read.remaining c.args.reader.now) (g.R.Read.remaining c.fill.new.reader) (said_in c.args.layout (length old.stores)) c.in_err-came.field-0.0 (room_at old) good (rows_of (maps_of old))
    (λ good. good.1) c.in_err-came.ensures.refusals)

pub returns-in-Ok-clause-reads : goal.returns-in-Ok-clause-reads
returns-in-Ok-clause-reads g c =
    let old = c.args.self.now in
    let layout = c.args.layout in
    let good = IsHonest old × (rows_of (maps_of old) ≡ []) in
    let front = take c.in_ok-came.came c.fill.new.buffer in
    let came = front_of (g.R.Read.remaining c.args.reader.now) (g.R.Read.remaining c.fill.new.reader) (4 + wide layout) c.in_ok-came.came c.fill.new.buffer (search rules) c.in_ok-came.ensures.told in
    counted (g.R.Read.remaining c.args.reader.now) (g.R.Read.remaining c.fill.new.reader) layout (length old.stores) front
    (λ said. Reads said c.take_rows.result (room_at c.take_rows.new.self) good (rows_of (maps_of c.take_rows.new.self)) (g.R.Read.remaining c.take_rows.new.reader))
    c.in-Ok.count came (ap (λ n. shares_said layout n front) (sym c.servers.ensures.servers) ∙ sym c.in-Ok.ensures) c.take_rows.ensures.reads

pub returns-in-Err-clause-reads : goal.returns-in-Err-clause-reads
returns-in-Err-clause-reads g c =
    let old = c.args.self.now in
    let layout = c.args.layout in
    let good = IsHonest old × (rows_of (maps_of old) ≡ []) in
    let front = take c.in_ok-came.came c.fill.new.buffer in
    let came = front_of (g.R.Read.remaining c.args.reader.now) (g.R.Read.remaining c.fill.new.reader) (4 + wide layout) c.in_ok-came.came c.fill.new.buffer (search rules) c.in_ok-came.ensures.told in
    bad_front (g.R.Read.remaining c.args.reader.now) (g.R.Read.remaining c.fill.new.reader) (said_in layout (length old.stores)) c.in-Err.place (room_at old) good (rows_of (maps_of old)) (λ good. good.1)
    (not_counted (g.R.Read.remaining c.args.reader.now) (g.R.Read.remaining c.fill.new.reader) layout (length old.stores) front c.in-Err.place came
    (ap (λ n. shares_said layout n front) (sym c.servers.ensures.servers) ∙ sym c.in-Err.ensures))

pub returns-in_err-came-clause-told : goal.returns-in_err-came-clause-told
returns-in_err-came-clause-told g c = tell_on_none c.args.self.now

pub returns-in-Err-clause-told : goal.returns-in-Err-clause-told
returns-in-Err-clause-told g c = tell_on_none c.args.self.now
