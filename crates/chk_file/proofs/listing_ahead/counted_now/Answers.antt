use Rattle.std.proofs.Common.{◌≡◌, List, ℕ, Some, sym, ap, subst, ◌∙◌, Contains}
use Rattle.grid.specs.Stamps.{stamp_of}
use Rattle.grid.specs.GridState.{stood, raised_at}
use Rattle.caps.specs.Fields.{ReadValue}
use Rattle.caps.specs.StorageIndex.{index_of}
use Rattle.chk_file.specs.Tables.{table_of}
use Rattle.file_shares.specs.Fit.{fit}
use Rattle.chk_file.proofs.Freshness.{stamp_tells, found_fits}
use Rattle.chk_file.proofs.LookUps.{some_so}
use Rattle.chk_file.proofs.listing_ahead.counted_now.Goals as goal

pub returns-in-Some-clause-kept : goal.returns-in-Some-clause-kept
returns-in-Some-clause-kept g c =
    let f : ReadValue = c.args.fields.now in
    let same : c.storage_index.result ≡ index_of f.key = c.storage_index.ensures ∙ ap (λ (v : ReadValue). index_of v.key) c.fields.view_is in
    let is : Some c.in-Some.stamp ≡ stamp_of (raised_at c.args.grid.now (index_of f.key)) = sym c.in-Some.is ∙ c.stamp.ensures ∙ ap (λ si. stamp_of (raised_at c.args.grid.now si)) same in
    let told = stamp_tells (raised_at c.args.grid.now (index_of f.key)) c.in-Some.stamp is in
    let P : List ℕ → Type 0 = λ bytes. Contains c.args.cache.now (f, (c.in-Some.stamp, bytes)) in
    let Q : List ℕ → Type 0 = λ bytes. Contains c.args.cache.now (f, (raised_at c.args.grid.now (index_of f.key), bytes)) in
    some_so P Q c.take_counted.result (λ bytes there. subst (λ (n : ℕ). Contains c.args.cache.now (f, (n, bytes))) (sym told.0) there) c.take_counted.ensures.there

pub returns-in-Some-clause-fit : goal.returns-in-Some-clause-fit
returns-in-Some-clause-fit g c fresh all =
    let f : ReadValue = c.args.fields.now in
    let same : c.storage_index.result ≡ index_of f.key = c.storage_index.ensures ∙ ap (λ (v : ReadValue). index_of v.key) c.fields.view_is in
    let is : Some c.in-Some.stamp ≡ stamp_of (raised_at c.args.grid.now (index_of f.key)) = sym c.in-Some.is ∙ c.stamp.ensures ∙ ap (λ si. stamp_of (raised_at c.args.grid.now si)) same in
    let P : List ℕ → Type 0 = λ bytes. Contains c.args.cache.now (f, (c.in-Some.stamp, bytes)) in
    let Q : List ℕ → Type 0 = λ bytes. fit (table_of (stood c.args.grid.now) (index_of f.key)) f ≡ Some bytes in
    some_so P Q c.take_counted.result (λ bytes there. found_fits c.args.cache.now c.args.grid.now f c.in-Some.stamp bytes fresh all is there) c.take_counted.ensures.there
