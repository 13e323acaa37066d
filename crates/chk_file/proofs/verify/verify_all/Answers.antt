use Rattle.std.proofs.Common.{◌≡◌, ℕ, List, map, Option, Some, None, sym, ap, ◌∙◌}
use Rattle.std.specs.Rc.{rc_slice_items}
use Rattle.aes_ctr.specs.Crypt.{crypt}
use Rattle.grid.specs.Found.{found_bytes}
use Rattle.caps.specs.Fields.{ReadValue}
use Rattle.caps.specs.StorageIndex.{index_of}
use Rattle.share_codec.specs.Params.{ParamsValue}
use Rattle.file_shares.specs.Numbers.{params_of}
use Rattle.file_shares.specs.Gathered.{Found, of_number, by_number, good_below}
use Rattle.file_shares.specs.Row.{ShareTable, places, good_shares}
use Rattle.file_shares.specs.Fit.{fit, fit_in}
use Rattle.file_shares.proofs.ByNumber.{rows_are_good}
use Rattle.chk_file.proofs.Amid.{gathered_seen}
use Rattle.chk_file.proofs.verify.verify_all.Goals as goal

-- what was gathered gives what the row gives of which it is
in_row : (p : ParamsValue) (key ueb : List ℕ) (row : ShareTable) (found : List Found) (o : Option (List ℕ)) → ((number : ℕ) → of_number number found ≡ places row number)
    → fit_in p key (good_below p ueb (by_number p.n found) p.n) ≡ o → fit_in p key (good_shares p ueb row) ≡ o
in_row p key ueb row found o same e = ap (fit_in p key) (sym (rows_are_good found row same p.n p ueb)) ∙ e

pub returns-in-Ok-clause-seen : goal.returns-in-Ok-clause-seen
returns-in-Ok-clause-seen g c all =
    let f = c.args.fields.now in
    let same : c.storage_index.result ≡ index_of f.key = c.storage_index.ensures ∙ ap (λ (v : ReadValue). index_of v.key) c.fields.view_is in
    let found : List Found = map (found_bytes rc_slice_items) c.deref.result.now in
    let o : Option (List ℕ) = Some (crypt f.key c.in-Ok.read.1.items) in
    gathered_seen c.found_laws.ensures (index_of f.key) c.storage_index.result c.args.grid.now c.gather.new.self found _ c.servers.ensures.few same
    (ap (map (found_bytes rc_slice_items)) c.deref.ensures.value) (λ row. fit row f ≡ o)
    (λ row there. in_row (params_of f.k f.n f.size) f.key f.ueb row found o there c.in-Ok.ensures.fit) (c.in_ok-found.ensures.seen all)

pub returns-clause-seen_missing : goal.returns-clause-seen_missing
returns-clause-seen_missing g c all is =
    let f = c.args.fields.now in
    let same : c.storage_index.result ≡ index_of f.key = c.storage_index.ensures ∙ ap (λ (v : ReadValue). index_of v.key) c.fields.view_is in
    let found : List Found = map (found_bytes rc_slice_items) c.deref.result.now in
    gathered_seen c.found_laws.ensures (index_of f.key) c.storage_index.result c.args.grid.now c.gather.new.self found _ c.servers.ensures.few same
    (ap (map (found_bytes rc_slice_items)) c.deref.ensures.value) (λ row. fit row f ≡ None)
    (λ row there. in_row (params_of f.k f.n f.size) f.key f.ueb row found None there (c.in-Err.ensures.missing is)) (c.in_ok-found.ensures.seen all)
