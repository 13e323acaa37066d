use Rattle.std.proofs.Common.{◌≡◌, List, ℕ, Some, sym, ap, subst, ◌∙◌, arith}
use Rattle.std.specs.Prelude.{MatchOption}
use Rattle.grid.specs.Stamps.{stamp_of}
use Rattle.grid.specs.GridState.{stood, raised_at, failures_in}
use Rattle.grid.proofs.Turns.{stamped_unchanged, none_failed}
use Rattle.grid.proofs.Views.{honest_tell, tell_on_none, still_none}
use Rattle.caps.specs.Fields.{ReadValue}
use Rattle.caps.specs.StorageIndex.{index_of}
use Rattle.chk_file.specs.Tables.{table_of}
use Rattle.file_shares.specs.Fit.{fit}
use Rattle.chk_file.specs.Cached.{CacheEntry, IsWithin, IsWithinOr}
use Rattle.chk_file.specs.Amid.{SeesReached}
use Rattle.chk_file.specs.Seen.{gathered_file}
use Rattle.chk_file.proofs.Freshness.{fresh_stays, fresh_given}
use Rattle.chk_file.proofs.LookUps.{some_so}
use Rattle.chk_file.proofs.Amid.{stood_honest, kept_given}
use Rattle.chk_file.proofs.gathering.gather.Goals as goal

pub returns-in_default-gathered_at-clause-fresh : goal.returns-in_default-gathered_at-clause-fresh
returns-in_default-gathered_at-clause-fresh g c =
    let old = c.args.grid.now in
    let new = c.gathered_at.new.grid in
    fresh_stays c.args.cache.now old new c.gathered_at.ensures.leaves (stamped_unchanged old new c.gathered_at.ensures.stamps c.gathered_at.ensures.unchanged)

pub returns-then-failures-clause-fresh : goal.returns-then-failures-clause-fresh
returns-then-failures-clause-fresh g c =
    let old = c.args.grid.now in
    let new = c.gathered_at.new.grid in
    fresh_stays c.args.cache.now old new c.gathered_at.ensures.leaves (stamped_unchanged old new c.gathered_at.ensures.stamps c.gathered_at.ensures.unchanged)

pub returns-clause-fresh : goal.returns-clause-fresh
returns-clause-fresh g c =
    let f : ReadValue = c.args.fields.now in
    let stamp : ℕ = c.in-Some.stamp in
    let old = c.args.grid.now in
    let new = c.gathered_at.new.grid in
    let cache : List CacheEntry = c.args.cache.now in
    let kept : List CacheEntry = c.put_gathered.new.self in
    let gathered = c.in-Some-gathered_at.gathered in
    let same : c.storage_index.result ≡ index_of f.key = c.storage_index.ensures ∙ ap (λ (v : ReadValue). index_of v.key) c.fields.view_is in
    let is : Some stamp ≡ stamp_of (raised_at old (index_of f.key)) = sym c.in-Some.is ∙ c.stamp.ensures ∙ ap (λ si. stamp_of (raised_at old si)) same in
    let stayed : failures_in new ≡ failures_in old = omega arith in
    let W : ReadValue × ℕ → Type 0 = λ e. MatchOption (gathered_file gathered) (IsWithin cache kept) (λ bytes. IsWithinOr cache kept (e.0, (e.1, bytes))) in
    let of : (gathered.fields, gathered.stamp) ≡ (f, stamp) = (λ i. (c.in-Some-gathered_at.ensures.fields i, c.in-Some-gathered_at.ensures.stamp i)) in
    fresh_given (gathered_file gathered) cache kept old new f stamp c.gathered_at.ensures.leaves (stamped_unchanged old new c.gathered_at.ensures.stamps c.gathered_at.ensures.unchanged)
    (none_failed old new c.gathered_at.ensures.leaves stayed) is
    (λ all calm. some_so (λ bytes. SeesReached old new (index_of f.key) (λ row. fit row f ≡ Some bytes)) (λ bytes. fit (table_of (stood old) (index_of f.key)) f ≡ Some bytes) (gathered_file gathered)
    (λ bytes seen. stood_honest old new (index_of f.key) (λ row. fit row f ≡ Some bytes) (λ _. seen) all calm) (c.in-Some-gathered_at.ensures.seen (honest_tell old all)))
    (subst W of c.put_gathered.ensures)

pub returns-clause-kept_seen : goal.returns-clause-kept_seen
returns-clause-kept_seen g c all =
    let f : ReadValue = c.args.fields.now in
    let stamp : ℕ = c.in-Some.stamp in
    let old = c.args.grid.now in
    let new = c.gathered_at.new.grid in
    let cache : List CacheEntry = c.args.cache.now in
    let kept : List CacheEntry = c.put_gathered.new.self in
    let gathered = c.in-Some-gathered_at.gathered in
    let stayed : failures_in new ≡ failures_in old = omega arith in
    let W : ReadValue × ℕ → Type 0 = λ e. MatchOption (gathered_file gathered) (IsWithin cache kept) (λ bytes. IsWithinOr cache kept (e.0, (e.1, bytes))) in
    let of : (gathered.fields, gathered.stamp) ≡ (f, stamp) = (λ i. (c.in-Some-gathered_at.ensures.fields i, c.in-Some-gathered_at.ensures.stamp i)) in
    kept_given old new (none_failed old new c.gathered_at.ensures.leaves stayed) f cache kept (gathered_file gathered) stamp (c.in-Some-gathered_at.ensures.seen all) (subst W of c.put_gathered.ensures)

pub returns-in_default-clause-stand_still : goal.returns-in_default-clause-stand_still
returns-in_default-clause-stand_still g c = still_none c.args.grid.now

pub returns-in_default-clause-told : goal.returns-in_default-clause-told
returns-in_default-clause-told g c = tell_on_none c.args.grid.now
