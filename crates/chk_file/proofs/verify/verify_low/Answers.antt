use Rattle.std.proofs.Common.{◌≡◌, List, map, ap, ◌∙◌}
use Rattle.std.specs.Rc.{rc_slice_items}
use Rattle.aes_ctr.specs.Crypt.{crypt}
use Rattle.grid.specs.Found.{found_bytes}
use Rattle.caps.specs.Fields.{ReadValue}
use Rattle.caps.specs.StorageIndex.{index_of}
use Rattle.file_shares.specs.Numbers.{params_of}
use Rattle.file_shares.specs.Gathered.{Found}
use Rattle.chk_file.proofs.Amid.{low_seen}
use Rattle.chk_file.proofs.verify.verify_low.Goals as goal

pub returns-in-Ok-clause-seen : goal.returns-in-Ok-clause-seen
returns-in-Ok-clause-seen g c all =
    let f = c.args.fields.now in
    let same : c.storage_index.result ≡ index_of f.key = c.storage_index.ensures ∙ ap (λ (v : ReadValue). index_of v.key) c.fields.view_is in
    let found : List Found = map (found_bytes rc_slice_items) c.deref.result.now in
    low_seen c.found_laws.ensures (index_of f.key) c.storage_index.result c.args.grid.now c.gather_below.new.self found _ c.servers.ensures.few same
    (ap (map (found_bytes rc_slice_items)) c.deref.ensures.value) c.fields.inside.k (params_of f.k f.n f.size) f.key f.ueb (crypt f.key c.in-Ok.read.1.items) c.in-Ok.ensures.fit
    (c.in_ok-found.ensures.seen all)
