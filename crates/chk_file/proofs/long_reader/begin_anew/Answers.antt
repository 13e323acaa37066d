use Rattle.std.proofs.Common.{◌≡◌, List, Some, Contains, sym, ap, subst, ◌∙◌, arith}
use Rattle.grid.specs.Stamps.{stamp_of}
use Rattle.grid.specs.GridState.{raised_at, failures_in}
use Rattle.grid.proofs.Turns.{stamped_unchanged, none_failed}
use Rattle.caps.specs.Fields.{ReadValue}
use Rattle.caps.specs.StorageIndex.{index_of}
use Rattle.file_shares.specs.Fit.{fit}
use Rattle.chk_file.specs.Cached.{CacheEntry, IsCacheCurrent, IsWithin}
use Rattle.chk_file.proofs.Freshness.{fresh_stays, fresh_kept_if}
use Rattle.chk_file.proofs.Amid.{stood_honest, kept_within, kept_after, kept_found}
use Rattle.chk_file.proofs.long_reader.begin_anew.Goals as goal

pub returns-clause-fresh : goal.returns-clause-fresh
returns-clause-fresh g c fresh =
    let kept : List CacheEntry = c.take_ready-ready.new.self in
    let f : ReadValue = c.args.fields.now in
    let old = c.args.grid.now in
    let new = c.find_shares.new.grid in
    let same : c.storage_index.result ≡ index_of f.key = c.storage_index.ensures ∙ ap (λ (v : ReadValue). index_of v.key) c.fields.view_is in
    let is : c.stamp-stamp.result ≡ stamp_of (raised_at old (index_of f.key)) = c.stamp-stamp.ensures ∙ ap (λ si. stamp_of (raised_at old si)) same in
    let stayed : failures_in new ≡ failures_in old = omega arith in
    fresh_kept_if c.stamp-stamp.result kept c.keep.new.cache old new f _ c.find_shares.ensures.leaves
    (stamped_unchanged old new c.find_shares.ensures.stamps c.find_shares.ensures.unchanged) (none_failed old new c.find_shares.ensures.leaves stayed) is
    (stood_honest old new (index_of f.key) (λ row. fit row f ≡ Some _) c.in-Ok.ensures.seen) c.keep.ensures
    (subst (λ (cache : List CacheEntry). IsCacheCurrent cache old) (sym c.take_ready-ready.ensures.same) fresh)

pub returns-in-Err-clause-fresh : goal.returns-in-Err-clause-fresh
returns-in-Err-clause-fresh g c fresh =
    let kept : List CacheEntry = c.take_ready-ready.new.self in
    let old = c.args.grid.now in
    let new = c.find_shares.new.grid in
    fresh_stays kept old new c.find_shares.ensures.leaves (stamped_unchanged old new c.find_shares.ensures.stamps c.find_shares.ensures.unchanged)
    (subst (λ (cache : List CacheEntry). IsCacheCurrent cache old) (sym c.take_ready-ready.ensures.same) fresh)

pub returns-then-failures-clause-fresh : goal.returns-then-failures-clause-fresh
returns-then-failures-clause-fresh g c fresh =
    let kept : List CacheEntry = c.take_ready-ready.new.self in
    let old = c.args.grid.now in
    let new = c.find_shares.new.grid in
    fresh_stays kept old new c.find_shares.ensures.leaves (stamped_unchanged old new c.find_shares.ensures.stamps c.find_shares.ensures.unchanged)
    (subst (λ (cache : List CacheEntry). IsCacheCurrent cache old) (sym c.take_ready-ready.ensures.same) fresh)

pub returns-clause-kept_seen : goal.returns-clause-kept_seen
returns-clause-kept_seen g c all =
    let old = c.args.grid.now in
    let new = c.find_shares.new.grid in
    let mid : List CacheEntry = c.take_ready-ready.new.self in
    let stayed : failures_in new ≡ failures_in old = omega arith in
    let within : IsWithin c.args.cache.now mid = λ entry there. subst (λ (entries : List CacheEntry). Contains entries entry) c.take_ready-ready.ensures.same there in
    kept_after old new c.args.cache.now mid c.keep.new.cache within
    (kept_found old new (none_failed old new c.find_shares.ensures.leaves stayed) c.args.fields.now mid c.keep.new.cache c.stamp-stamp.result _ (c.in-Ok.ensures.seen all) c.keep.ensures)

pub returns-in-Err-clause-kept_seen : goal.returns-in-Err-clause-kept_seen
returns-in-Err-clause-kept_seen g c all =
    kept_within c.args.grid.now c.find_shares.new.grid c.args.cache.now c.take_ready-ready.new.self (λ entry there. subst (λ (entries : List CacheEntry). Contains entries entry) c.take_ready-ready.ensures.same there)

pub returns-then-failures-clause-kept_seen : goal.returns-then-failures-clause-kept_seen
returns-then-failures-clause-kept_seen g c all =
    kept_within c.args.grid.now c.find_shares.new.grid c.args.cache.now c.take_ready-ready.new.self (λ entry there. subst (λ (entries : List CacheEntry). Contains entries entry) c.take_ready-ready.ensures.same there)
