use Rattle.std.proofs.Common.{◌≡◌, inr, None, Some}
use Rattle.std.proofs.lemmas.Result.{IfOk-weaker}
use Rattle.caps.specs.StorageIndex.{index_of}
use Rattle.file_shares.specs.Row.{ShareTable}
use Rattle.file_shares.specs.Fit.{fit}
use Rattle.chk_file.specs.Amid.{IsKeptOrSeen, SeesReached}
use Rattle.chk_file.proofs.Freshness.{fresh_within}
use Rattle.chk_file.proofs.Amid.{kept_after, reached_honest, stood_honest, found_reached, found_stood}
use Rattle.grid.proofs.Views.{tell_on_none, still_none}
use Rattle.chk_file.proofs.long_reader.begin_long.Goals as goal

-- the stores were asked

pub returns-in-None-clause-fresh : goal.returns-in-None-clause-fresh
returns-in-None-clause-fresh g c fresh = c.begin_anew.ensures.fresh (fresh_within c.args.cache.now c.look_up.new.cache c.args.grid.now c.look_up.ensures.within fresh)

pub returns-in-None-clause-fit : goal.returns-in-None-clause-fit
returns-in-None-clause-fit g c fresh =
    let f = c.args.fields.now in
    found_stood c.args.grid.now c.begin_anew.new.grid (index_of f.key) (λ download row. fit row f ≡ Some download.left) c.begin_anew.result c.begin_anew.ensures.seen

pub returns-in-None-clause-missing : goal.returns-in-None-clause-missing
returns-in-None-clause-missing g c all calm none =
    let f = c.args.fields.now in
    stood_honest c.args.grid.now c.begin_anew.new.grid (index_of f.key) (λ row. fit row f ≡ None) (λ tell. c.begin_anew.ensures.seen_missing tell none) all calm

pub returns-in-None-clause-fit_reached : goal.returns-in-None-clause-fit_reached
returns-in-None-clause-fit_reached g c fresh =
    let f = c.args.fields.now in
    found_reached c.args.grid.now c.begin_anew.new.grid (index_of f.key) (λ download row. fit row f ≡ Some download.left) c.begin_anew.result c.begin_anew.ensures.seen

pub returns-in-None-clause-missing_reached : goal.returns-in-None-clause-missing_reached
returns-in-None-clause-missing_reached g c all none =
    let f = c.args.fields.now in
    reached_honest c.args.grid.now c.begin_anew.new.grid (index_of f.key) (λ row. fit row f ≡ None) (λ tell. c.begin_anew.ensures.seen_missing tell none) all

pub returns-in-None-clause-seen : goal.returns-in-None-clause-seen
returns-in-None-clause-seen g c all =
    let f = c.args.fields.now in
    let old = c.args.grid.now in
    let new = c.begin_anew.new.grid in
    IfOk-weaker c.begin_anew.result (λ download. SeesReached old new (index_of f.key) (λ row. fit row f ≡ Some download.left)) (λ download. IsKeptOrSeen c.args.cache.now old new f download.left) (λ download seen. inr seen) (c.begin_anew.ensures.seen all)

pub returns-in-None-clause-kept_seen : goal.returns-in-None-clause-kept_seen
returns-in-None-clause-kept_seen g c all = kept_after c.args.grid.now c.begin_anew.new.grid c.args.cache.now c.look_up.new.cache c.begin_anew.new.cache c.look_up.ensures.within (c.begin_anew.ensures.kept_seen all)

-- what is kept was taken

pub returns-in-Some-clause-fresh : goal.returns-in-Some-clause-fresh
returns-in-Some-clause-fresh g c = fresh_within c.args.cache.now c.look_up.new.cache c.args.grid.now c.look_up.ensures.within

pub returns-in-Some-clause-stand_still : goal.returns-in-Some-clause-stand_still
returns-in-Some-clause-stand_still g c = still_none c.args.grid.now

pub returns-in-Some-clause-told : goal.returns-in-Some-clause-told
returns-in-Some-clause-told g c = tell_on_none c.args.grid.now

-- memory was refused

pub returns-in_err-shares-clause-stand_still : goal.returns-in_err-shares-clause-stand_still
returns-in_err-shares-clause-stand_still g c = still_none c.args.grid.now

pub returns-in_err-shares-clause-told : goal.returns-in_err-shares-clause-told
returns-in_err-shares-clause-told g c = tell_on_none c.args.grid.now
