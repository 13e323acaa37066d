use Rattle.std.proofs.Common.{◌≡◌, List, ℕ, map, refl, Option, Some, IfSome, sym, ap, subst, ◌∙◌}
use Rattle.std.specs.Rc.{rc_slice_items}
use Rattle.grid.specs.Found.{found_bytes}
use Rattle.caps.specs.Fields.{ReadValue}
use Rattle.caps.specs.StorageIndex.{index_of}
use Rattle.file_shares.specs.Fit.{fit}
use Rattle.file_shares.specs.Gathered.{Found, fit_of}
use Rattle.file_shares.specs.Ahead.{file_params}
use Rattle.chk_file.specs.Seen.{gathered_file}
use Rattle.chk_file.specs.Amid.{SeesReached}
use Rattle.chk_file.proofs.Amid.{low_seen}
use Rattle.chk_file.proofs.LookUps.{so_if_some}
use Rattle.chk_file.proofs.gathering.gathered_at.Goals as goal

pub returns-clause-seen : goal.returns-clause-seen
returns-clause-seen g c all =
    let f : ReadValue = c.args.fields.now in
    let old = c.args.grid.now in
    let new = c.gather_below.new.self in
    let same : c.storage_index.result ≡ index_of f.key = c.storage_index.ensures ∙ ap (λ (v : ReadValue). index_of v.key) c.fields.view_is in
    let found : List Found = map (found_bytes rc_slice_items) c.in-Ok.found.items in
    let P : List ℕ → Type 0 = λ bytes. SeesReached old new (index_of f.key) (λ row. fit row f ≡ Some bytes) in
    let given : gathered_file c.new.result ≡ fit_of found f = (λ i. fit_of (map (found_bytes rc_slice_items) (c.new.ensures.strings i)) (c.new.ensures.fields i)) in
    subst (λ (o : Option (List ℕ)). IfSome o P) (sym given)
    (so_if_some P (fit_of found f) (λ bytes e.
    low_seen c.found_laws.ensures (index_of f.key) c.storage_index.result old new found found c.servers.ensures.few same refl c.fields.inside.k (file_params f) f.key f.ueb bytes e (c.in-Ok.ensures.seen all)))
