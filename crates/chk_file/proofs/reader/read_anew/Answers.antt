use Rattle.std.proofs.Common.{◌≡◌, Some, ap, ◌∙◌, arith}
use Rattle.grid.specs.Stamps.{stamp_of}
use Rattle.grid.specs.GridState.{raised_at, failures_in}
use Rattle.grid.proofs.Turns.{stamped_unchanged, none_failed}
use Rattle.caps.specs.Fields.{ReadValue}
use Rattle.caps.specs.StorageIndex.{index_of}
use Rattle.file_shares.specs.Fit.{fit}
use Rattle.chk_file.proofs.Freshness.{fresh_stays, fresh_kept_if}
use Rattle.chk_file.proofs.Amid.{stood_honest, kept_found}
use Rattle.chk_file.proofs.reader.read_anew.Goals as goal

pub returns-clause-fresh : goal.returns-clause-fresh
returns-clause-fresh g c =
    let f : ReadValue = c.args.fields.now in
    let old = c.args.grid.now in
    let new = c.read_shared.new.grid in
    let same : c.storage_index.result ≡ index_of f.key = c.storage_index.ensures ∙ ap (λ (v : ReadValue). index_of v.key) c.fields.view_is in
    let is : c.stamp-stamp.result ≡ stamp_of (raised_at old (index_of f.key)) = c.stamp-stamp.ensures ∙ ap (λ si. stamp_of (raised_at old si)) same in
    let stayed : failures_in new ≡ failures_in old = omega arith in
    fresh_kept_if c.stamp-stamp.result c.args.cache.now c.keep.new.cache old new f _ c.read_shared.ensures.leaves
    (stamped_unchanged old new c.read_shared.ensures.stamps c.read_shared.ensures.unchanged) (none_failed old new c.read_shared.ensures.leaves stayed) is
    (stood_honest old new (index_of f.key) (λ row. fit row f ≡ Some _) c.in-Ok.ensures.seen) c.keep.ensures

pub returns-in-Err-clause-fresh : goal.returns-in-Err-clause-fresh
returns-in-Err-clause-fresh g c =
    let old = c.args.grid.now in
    let new = c.read_shared.new.grid in
    fresh_stays c.args.cache.now old new c.read_shared.ensures.leaves (stamped_unchanged old new c.read_shared.ensures.stamps c.read_shared.ensures.unchanged)

pub returns-then-failures-clause-fresh : goal.returns-then-failures-clause-fresh
returns-then-failures-clause-fresh g c =
    let old = c.args.grid.now in
    let new = c.read_shared.new.grid in
    fresh_stays c.args.cache.now old new c.read_shared.ensures.leaves (stamped_unchanged old new c.read_shared.ensures.stamps c.read_shared.ensures.unchanged)

pub returns-clause-kept_seen : goal.returns-clause-kept_seen
returns-clause-kept_seen g c all =
    let old = c.args.grid.now in
    let new = c.read_shared.new.grid in
    let stayed : failures_in new ≡ failures_in old = omega arith in
    kept_found old new (none_failed old new c.read_shared.ensures.leaves stayed) c.args.fields.now c.args.cache.now c.keep.new.cache c.stamp-stamp.result _ (c.in-Ok.ensures.seen all) c.keep.ensures
