use Rattle.std.proofs.Common.{◌≡◌, inr, None, Some}
use Rattle.std.specs.Rc.{rc_slice_items}
use Rattle.std.proofs.lemmas.Result.{IfOk-weaker}
use Rattle.caps.specs.StorageIndex.{index_of}
use Rattle.file_shares.specs.Row.{ShareTable}
use Rattle.file_shares.specs.Fit.{fit}
use Rattle.chk_file.specs.Amid.{IsKeptOrSeen, SeesReached}
use Rattle.chk_file.proofs.Freshness.{fresh_within}
use Rattle.chk_file.proofs.Amid.{kept_after, reached_honest, stood_honest, found_reached, found_stood}
use Rattle.grid.proofs.Views.{tell_on_none, still_none}
use Rattle.chk_file.proofs.reader.fetch.Goals as goal

-- the stores were asked

pub returns-in-None-clause-fresh : goal.returns-in-None-clause-fresh
returns-in-None-clause-fresh g c fresh = c.read_anew.ensures.fresh (fresh_within c.args.cache.now c.look_up.new.cache c.args.grid.now c.look_up.ensures.within fresh)

pub returns-in-None-clause-fit : goal.returns-in-None-clause-fit
returns-in-None-clause-fit g c fresh =
    let f = c.args.fields.now in
    found_stood c.args.grid.now c.read_anew.new.grid (index_of f.key) (λ bytes row. fit row f ≡ Some (rc_slice_items bytes)) c.read_anew.result c.read_anew.ensures.seen

pub returns-in-None-clause-missing : goal.returns-in-None-clause-missing
returns-in-None-clause-missing g c all calm none =
    let f = c.args.fields.now in
    stood_honest c.args.grid.now c.read_anew.new.grid (index_of f.key) (λ row. fit row f ≡ None) (λ tell. c.read_anew.ensures.seen_missing tell none) all calm

pub returns-in-None-clause-fit_reached : goal.returns-in-None-clause-fit_reached
returns-in-None-clause-fit_reached g c fresh =
    let f = c.args.fields.now in
    found_reached c.args.grid.now c.read_anew.new.grid (index_of f.key) (λ bytes row. fit row f ≡ Some (rc_slice_items bytes)) c.read_anew.result c.read_anew.ensures.seen

pub returns-in-None-clause-missing_reached : goal.returns-in-None-clause-missing_reached
returns-in-None-clause-missing_reached g c all none =
    let f = c.args.fields.now in
    reached_honest c.args.grid.now c.read_anew.new.grid (index_of f.key) (λ row. fit row f ≡ None) (λ tell. c.read_anew.ensures.seen_missing tell none) all

pub returns-in-None-clause-seen : goal.returns-in-None-clause-seen
returns-in-None-clause-seen g c all =
    let f = c.args.fields.now in
    let old = c.args.grid.now in
    let new = c.read_anew.new.grid in
    IfOk-weaker c.read_anew.result (λ bytes. SeesReached old new (index_of f.key) (λ row. fit row f ≡ Some (rc_slice_items bytes))) (λ bytes. IsKeptOrSeen c.args.cache.now old new f (rc_slice_items bytes)) (λ bytes seen. inr seen) (c.read_anew.ensures.seen all)

pub returns-in-None-clause-kept_seen : goal.returns-in-None-clause-kept_seen
returns-in-None-clause-kept_seen g c all = kept_after c.args.grid.now c.read_anew.new.grid c.args.cache.now c.look_up.new.cache c.read_anew.new.cache c.look_up.ensures.within (c.read_anew.ensures.kept_seen all)

-- what is kept was taken

pub returns-in-Some-clause-stand_still : goal.returns-in-Some-clause-stand_still
returns-in-Some-clause-stand_still g c = still_none c.args.grid.now

pub returns-in-Some-clause-told : goal.returns-in-Some-clause-told
returns-in-Some-clause-told g c = tell_on_none c.args.grid.now

-- memory was refused

pub returns-in_err-bytes-clause-stand_still : goal.returns-in_err-bytes-clause-stand_still
returns-in_err-bytes-clause-stand_still g c = still_none c.args.grid.now

pub returns-in_err-bytes-clause-told : goal.returns-in_err-bytes-clause-told
returns-in_err-bytes-clause-told g c = tell_on_none c.args.grid.now
