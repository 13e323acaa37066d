use Rattle.std.proofs.Common.{◌≡◌, ◌<◌, ◌+◌, ◌^◌, ◌∷◌, [], ℕ, List, length, Some, if◌then◌else◌, ap, sym, subst, ◌∙◌, arith}
use Rattle.std.proofs.KnownBytes.{Appends-trans}
use Rattle.std.proofs.lemmas.Bool.{lt-ltb}
use Rattle.std.proofs.lemmas.List.{append-nil}
use Rattle.std.proofs.lemmas.List.Elements.{All-cons, All-nil}
use Rattle.std.specs.Io.KnownBytes.{Appends}
use Rattle.std.specs.Rc.{rc_slice_items}
use Rattle.grid.specs.Image.{row_head, row_bytes, refused_field}
use Rattle.grid.specs.Rows.{Row}
use Rattle.grid.specs.RowsKept.{row_of}
use Rattle.grid.specs.declared.image_layout.Layout.TheVariants.{VersionTwo}
use Rattle.grid.specs.Written.{WritesBeginning}
use Rattle.grid.proofs.ImageWrites.{stopped_before, stopped_behind, on_err}
use Rattle.grid.proofs.image_writer.write_row.Goals as goal

pub returns-in_err-write_whole-clause-err : goal.returns-in_err-write_whole-clause-err
returns-in_err-write_whole-clause-err g c =
    let head : c.deref.result.now ≡ row_head VersionTwo (row_of (c.args.server, c.args.share.now)) = c.deref.ensures.value ∙ c.in_ok-put_row_head.ensures.items in
    let old = g.W.Write.contents c.args.writer.now in
    let new = g.W.Write.contents c.write_whole.new.writer in
    on_err _ _ (stopped_before old new (row_head VersionTwo (row_of (c.args.server, c.args.share.now))) (rc_slice_items c.args.share.now.bytes)
    (subst (λ l. WritesBeginning l old new) head c.in_err-write_whole.ensures.err))

pub returns-in_err-write_whole-2-clause-err : goal.returns-in_err-write_whole-2-clause-err
returns-in_err-write_whole-2-clause-err g c =
    let head : c.deref.result.now ≡ row_head VersionTwo (row_of (c.args.server, c.args.share.now)) = c.deref.ensures.value ∙ c.in_ok-put_row_head.ensures.items in
    let old = g.W.Write.contents c.args.writer.now in
    let mid = g.W.Write.contents c.write_whole.new.writer in
    let new = g.W.Write.contents c.write_whole-2.new.writer in
    on_err _ _ (stopped_behind old mid new (row_head VersionTwo (row_of (c.args.server, c.args.share.now))) (rc_slice_items c.args.share.now.bytes)
    (subst (Appends old mid) head c.in_ok-write_whole.ensures.ok)
    (subst (λ l. WritesBeginning l mid new) c.as_slice.ensures.value c.in_err-write_whole-2.ensures.err))

-- a row whose number is in its range
passes : (place next : ℕ) (row : Row) → row.1.0.1 < 256 → next ≡ place + 32 + length row.1.1 → (more : List Row) → refused_field place (row ∷ more) ≡ refused_field next more
passes place next row small is more =
    ap (λ b. if b then refused_field (place + 32 + length row.1.1) more else Some (place + 20)) (lt-ltb row.1.0.1 256 small) ∙ ap (λ n. refused_field n more) (sym is)

pub returns-clause-ok : goal.returns-clause-ok
returns-clause-ok g c =
    let row = row_of (c.args.server, c.args.share.now) in
    let bytes = rc_slice_items c.args.share.now.bytes in
    let head : c.deref.result.now ≡ row_head VersionTwo row = c.deref.ensures.value ∙ c.in_ok-put_row_head.ensures.items in
    let old = g.W.Write.contents c.args.writer.now in
    let mid = g.W.Write.contents c.write_whole.new.writer in
    let new = g.W.Write.contents c.write_whole-2.new.writer in
    let next : c.in-Some-checked_add.next ≡ c.args.progress.now.place + 32 + length (rc_slice_items c.args.share.now.bytes) =
    omega (arith, c.in-Some.ensures.1, c.in-Some-checked_add.ensures.1, c.len-length.ensures) in
    let short : length (rc_slice_items c.args.share.now.bytes) < 2 ^ 64 = omega (arith, c.in-Some-checked_add.ensures.0, c.len-length.ensures) in
    let small : c.args.share.now.number < 256 = omega arith in
    record {
      written = subst (Appends old new) (sym (append-nil (row_bytes VersionTwo row)))
          (Appends-trans old mid new (row_head VersionTwo row) bytes (subst (Appends old mid) head c.in_ok-write_whole.ensures.ok) (subst (Appends mid new) c.as_slice.ensures.value c.in_ok-write_whole-2.ensures.ok));
      counted = omega arith;
      passed = passes c.args.progress.now.place c.in-Some-checked_add.next row small next;
      sized = All-cons (λ (r : Row). length r.1.0.0 ≡ 16) row [] c.in_ok-put_row_head.ensures.sized (All-nil (λ (r : Row). length r.1.0.0 ≡ 16));
      short = All-cons (λ (r : Row). length r.1.1 < 2 ^ 64) row [] short (All-nil (λ (r : Row). length r.1.1 < 2 ^ 64));
    }
