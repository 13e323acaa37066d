use Rattle.std.proofs.Common.{◌≡◌, List, map, ap, subst, ◌∙◌}
use Rattle.std.specs.Rc.{rc_slice_items}
use Rattle.grid.specs.Found.{found_bytes}
use Rattle.caps.specs.Fields.{ReadValue}
use Rattle.caps.specs.StorageIndex.{index_of}
use Rattle.file_shares.specs.Gathered.{Found}
use Rattle.file_shares.specs.Ahead.{file_params, plain_from, AreVerified}
use Rattle.chk_file.proofs.Amid.{low_seen}
use Rattle.chk_file.proofs.long_reader.verify_ready.Goals as goal

pub returns-in-Some-clause-seen : goal.returns-in-Some-clause-seen
returns-in-Some-clause-seen g c all =
    let f = c.args.fields.now in
    let same : c.storage_index.result ≡ index_of f.key = c.storage_index.ensures ∙ ap (λ (v : ReadValue). index_of v.key) c.fields.view_is in
    let found : List Found = map (found_bytes rc_slice_items) c.deref.result.now in
    let are : AreVerified f found c.in-Some.shares.items = subst (λ (v : ReadValue). AreVerified v found c.in-Some.shares.items) c.requires c.in-Some.ensures in
    low_seen c.found_laws.ensures (index_of f.key) c.storage_index.result c.args.grid.now c.gather_below.new.self found _ c.servers.ensures.few same
    (ap (map (found_bytes rc_slice_items)) c.deref.ensures.value) c.fields.inside.k (file_params f) f.key f.ueb (plain_from f c.in-Some.shares.items) are.fit (c.in_ok-found.ensures.seen all)
