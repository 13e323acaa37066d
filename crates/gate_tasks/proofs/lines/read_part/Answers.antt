use Rattle.std.proofs.Common.{◌≡◌, ◌+◌, ◌++◌, length, true, refl, sym, ap, subst, ◌∙◌, eqb-true, length-append, rules}
use Rattle.std.specs.Io.KnownBytes.{Consumes}
use Rattle.std.specs.Io.BufRead.{FillKeeps}
use Rattle.gate_tasks.specs.Lines.{fits, line_bytes}
use Rattle.gate_tasks.proofs.Parts.{shows_nothing, shows_too_long, consumes_part, sized}
use Rattle.gate_tasks.proofs.lines.read_part.Goals as goal

pub returns-then-is_empty : goal.returns-then-is_empty
returns-then-is_empty g c =
    let old = g.R.Read.remaining c.args.reader.now in
    let new = g.R.Read.remaining c.fill_buf.follows.lender-at-none in
    let done = shows_nothing old new c.in-Ok.shown.now c.in-Ok.ensures.end c.fill_buf.follows.holds-at-none.0 (eqb-true _ _ (sym c.if-is_empty.ensures)) in
    (done.0, done.1, refl)

pub returns-then-not-is_within_limits : goal.returns-then-not-is_within_limits
returns-then-not-is_within_limits g c =
    let part = c.first_part-ended.result in
    let size : c.len.result ≡ length c.args.line.now.items = search rules in
    shows_too_long (g.R.Read.remaining c.args.reader.now) c.args.read c.args.line.now.items c.in-Ok.shown.now (record { bytes = part.0.now; ended = part.1 }) c.in-Ok.ensures.front c.first_part-ended.ensures
    (ap (λ n. fits c.args.read (n + length part.0.now) part.1) (sym size) ∙ sym c.if-not-is_within_limits.ensures)

pub returns-then-ended : goal.returns-then-ended
returns-then-ended g c =
    let old = g.R.Read.remaining c.args.reader.now in
    let kept = g.R.Read.remaining c.fill_buf.follows.lender-at-none in
    let limit = g.R.BufRead.consumable_len c.fill_buf.follows.lender-at-none in
    let new = g.R.Read.remaining c.consume.new.self in
    let part = c.first_part-ended.result in
    let line = c.extend_from_slice.new.self.items in
    let filled = subst (FillKeeps old kept limit) c.in-Ok.is c.fill_buf.follows.holds-at-none in
    let size : c.len.result ≡ length c.args.line.now.items = search rules in
    let joined : line ≡ c.args.line.now.items ++ part.0.now = search rules in
    let taken =
    consumes_part old kept new limit c.in-Ok.shown.now (record { bytes = part.0.now; ended = part.1 }) (length part.0.now + c.from.result) c.first_part-ended.ensures
    (sized part.0.now part.1 c.from.result c.from.ensures) c.in-Ok.ensures.front c.in-Ok.ensures.end filled.0 filled.1 c.consume.ensures.bytes in
    record {
      part = part.0.now;
      taken = subst (λ e. Consumes old new (line_bytes (record { bytes = part.0.now; ended = e }))) c.if-ended.true taken;
      joined = joined;
      lacks = c.first_part-ended.ensures.begins.before;
      within = subst (λ e. fits c.args.read (length line) e ≡ true) c.if-ended.true
          (ap (λ n. fits c.args.read n part.1) (ap length joined ∙ length-append c.args.line.now.items part.0.now ∙ ap (λ n. n + length part.0.now) (sym size)) ∙ sym c.if-not-is_within_limits.ensures);
    }
