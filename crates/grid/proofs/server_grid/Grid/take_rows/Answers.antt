use Rattle.std.proofs.Common.{◌≡◌, ◌+◌, ◌-◌, ◌∙◌, ℕ, suc, List, [], None, Err, IfSome, length, arith, refl, ap, subst}
use Rattle.std.specs.Option.{option_map}
use Rattle.std.specs.Rc.{rc_slice_items}
use Rattle.grid.specs.GridState.{maps_of, room_at, IsHonest}
use Rattle.grid.specs.Rows.{rows_of}
use Rattle.grid.specs.Layout.{front}
use Rattle.grid.specs.ImageHeads.{head_key}
use Rattle.grid.specs.ImageReading.{RowsRead, rows_said, stopped}
use Rattle.grid.specs.ImageSteps.{SaysRow}
use Rattle.grid.proofs.Puts.{calm_after}
use Rattle.grid.proofs.Turns.{leaves_none, leaves_both}
use Rattle.grid.proofs.ImageRuns.{starts, goes_on, stops_reading, stops_putting, stops_at_end, ends, reads_passed}
use Rattle.grid.proofs.Views.{tell_on_none, tell_on_both}
use Rattle.grid.proofs.server_grid.Grid.take_rows.Goals as goal

pub loop-done-init : goal.loop-done-init
loop-done-init g c = record {
  leaves = leaves_none c.args.self.now;
  told = tell_on_none c.args.self.now;
  calm = λ s. refl;
  so_far = starts (g.R.Read.remaining c.args.reader.now) c.args.layout (c.args.count - 0) c.args.count (length c.args.self.now.stores) (12 + c.wide.result)
      (IsHonest c.args.self.now × (rows_of (maps_of c.args.self.now) ≡ []))
      (rows_of (maps_of c.args.self.now)) (omega arith) (omega arith) (λ good. good.1);
}

pub returns-in_err-row-clause-reads : goal.returns-in_err-row-clause-reads
returns-in_err-row-clause-reads g c =
    let servers = length c.args.self.now.stores in
    let all : List ℕ → RowsRead = λ bytes. rows_said c.args.layout c.args.count servers None (front c.args.layout) bytes in
    let good = IsHonest c.args.self.now × (rows_of (maps_of c.args.self.now) ≡ []) in
    let room = room_at c.loop-done.self in
    let held = rows_of (maps_of c.loop-done.self) in
    let last = option_map head_key c.loop-done.last in
    let same = c.servers-servers.ensures.servers in
    reads_passed (g.R.Read.remaining c.args.reader.now) (g.R.Read.remaining c.read_row.new.reader) all room good held _ c.in_err-row.field-0.0 c.from_residual.ensures.1
    (stops_reading all c.args.layout servers good (g.R.Read.remaining c.args.reader.now) (g.R.Read.remaining c.loop-done.reader) (g.R.Read.remaining c.read_row.new.reader)
    (c.args.count - c.loop-done.done) (c.args.count - (c.loop-done.done + 1)) c.loop-done.place last held room c.in_err-row.field-0.0 (omega arith) c.in_err-row.ensures.refusals
    (λ p is. subst (λ n. IfSome (g.R.Read.remaining c.loop-done.reader) (λ left. (k : ℕ) → rows_said c.args.layout (suc k) n last c.loop-done.place left ≡ stopped p)) same (c.in_err-row.ensures.bad_image p (ap Err is)))
    c.loop-done.invariant.so_far)

pub returns-in_err-_put-clause-reads : goal.returns-in_err-_put-clause-reads
returns-in_err-_put-clause-reads g c =
    let servers = length c.args.self.now.stores in
    let all : List ℕ → RowsRead = λ bytes. rows_said c.args.layout c.args.count servers None (front c.args.layout) bytes in
    let good = IsHonest c.args.self.now × (rows_of (maps_of c.args.self.now) ≡ []) in
    let room = room_at c.put_row.new.self in
    let held = rows_of (maps_of c.loop-done.self) in
    let new = rows_of (maps_of c.put_row.new.self) in
    let last = option_map head_key c.loop-done.last in
    let head = c.in_ok-row.row.head in
    let own = rc_slice_items c.in_ok-row.row.bytes in
    let inv = c.loop-done.invariant in
    let same = c.servers-servers.ensures.servers in
    let row = subst (λ n. IfSome (g.R.Read.remaining c.loop-done.reader) (λ left. SaysRow c.args.layout n last c.loop-done.place left (g.R.Read.remaining c.read_row.new.reader) head own)) same c.in_ok-row.ensures.told in
    reads_passed (g.R.Read.remaining c.args.reader.now) (g.R.Read.remaining c.read_row.new.reader) all room good new _ c.in_err-_put.field-0.0 c.from_residual-in_err-_put.ensures.1
    (stops_putting all c.args.layout servers good (g.R.Read.remaining c.args.reader.now) (g.R.Read.remaining c.loop-done.reader) (g.R.Read.remaining c.read_row.new.reader)
    (c.args.count - c.loop-done.done) (c.args.count - (c.loop-done.done + 1)) c.loop-done.place last held new head own room c.in_err-_put.field-0.0 (omega arith) c.in_err-_put.ensures.refusals
    (λ s is. c.in_err-_put.ensures.full s (ap Err is)) (λ good. c.in_err-_put.ensures.err (inv.leaves.honest good.0)) inv.so_far row)

pub loop-done-preserved : goal.loop-done-preserved
loop-done-preserved g c =
    let servers = length c.args.self.now.stores in
    let all : List ℕ → RowsRead = λ bytes. rows_said c.args.layout c.args.count servers None (front c.args.layout) bytes in
    let good = IsHonest c.args.self.now × (rows_of (maps_of c.args.self.now) ≡ []) in
    let held = rows_of (maps_of c.loop-done.self) in
    let new = rows_of (maps_of c.put_row.new.self) in
    let last = option_map head_key c.loop-done.last in
    let head = c.in_ok-row.row.head in
    let own = rc_slice_items c.in_ok-row.row.bytes in
    let inv = c.loop-done.invariant in
    let put = c.in_ok-_put.ensures in
    let same = c.servers-servers.ensures.servers in
    let row = subst (λ n. IfSome (g.R.Read.remaining c.loop-done.reader) (λ left. SaysRow c.args.layout n last c.loop-done.place left (g.R.Read.remaining c.read_row.new.reader) head own)) same c.in_ok-row.ensures.told in
    record {
      leaves = leaves_both c.args.self.now c.loop-done.self c.put_row.new.self inv.leaves put.leaves;
      told = tell_on_both c.args.self.now c.loop-done.self c.put_row.new.self inv.told put.told;
      calm = λ s. calm_after c.loop-done.self c.put_row.new.self _ put.leaves put.down s ∙ inv.calm s;
      so_far = goes_on all c.args.layout servers good (g.R.Read.remaining c.args.reader.now) (g.R.Read.remaining c.loop-done.reader) (g.R.Read.remaining c.read_row.new.reader)
          (c.args.count - c.loop-done.done) (c.args.count - (c.loop-done.done + 1)) c.loop-done.place c.in_ok-row.row.next last held new head own (omega arith) c.in_ok-row.ensures.next c.in_ok-row.ensures.after
          (λ good. put.ok (inv.leaves.honest good.0)) inv.so_far row;
    }

pub returns-in_err-expect_end-clause-reads : goal.returns-in_err-expect_end-clause-reads
returns-in_err-expect_end-clause-reads g c =
    let servers = length c.args.self.now.stores in
    let all : List ℕ → RowsRead = λ bytes. rows_said c.args.layout c.args.count servers None (front c.args.layout) bytes in
    let good = IsHonest c.args.self.now × (rows_of (maps_of c.args.self.now) ≡ []) in
    let room = room_at c.loop-done.self in
    let held = rows_of (maps_of c.loop-done.self) in
    reads_passed (g.R.Read.remaining c.args.reader.now) (g.R.Read.remaining c.expect_end.new.reader) all room good held _ c.in_err-expect_end.field-0.0 c.from_residual-in_err-expect_end.ensures.1
    (stops_at_end all c.args.layout servers good (g.R.Read.remaining c.args.reader.now) (g.R.Read.remaining c.loop-done.reader) (g.R.Read.remaining c.expect_end.new.reader)
    (c.args.count - c.loop-done.done) c.loop-done.place (option_map head_key c.loop-done.last) held room c.in_err-expect_end.field-0.0 (omega arith) c.in_err-expect_end.ensures.refusals
    (λ p is. c.in_err-expect_end.ensures.bad_image p (ap Err is)) c.loop-done.invariant.so_far)

pub returns-clause-reads : goal.returns-clause-reads
returns-clause-reads g c =
    let servers = length c.args.self.now.stores in
    let all : List ℕ → RowsRead = λ bytes. rows_said c.args.layout c.args.count servers None (front c.args.layout) bytes in
    let good = IsHonest c.args.self.now × (rows_of (maps_of c.args.self.now) ≡ []) in
    let room = room_at c.loop-done.self in
    let held = rows_of (maps_of c.loop-done.self) in
    ends all c.args.layout servers good (g.R.Read.remaining c.args.reader.now) (g.R.Read.remaining c.loop-done.reader) (g.R.Read.remaining c.expect_end.new.reader)
    (c.args.count - c.loop-done.done) c.loop-done.place (option_map head_key c.loop-done.last) held room (omega arith) c.in_ok-expect_end.ensures.ok c.loop-done.invariant.so_far

pub returns-in_err-_put-clause-leaves : goal.returns-in_err-_put-clause-leaves
returns-in_err-_put-clause-leaves g c = leaves_both c.args.self.now c.loop-done.self c.put_row.new.self c.loop-done.invariant.leaves c.in_err-_put.ensures.leaves

pub returns-in_err-_put-clause-told : goal.returns-in_err-_put-clause-told
returns-in_err-_put-clause-told g c = tell_on_both c.args.self.now c.loop-done.self c.put_row.new.self c.loop-done.invariant.told c.in_err-_put.ensures.told
