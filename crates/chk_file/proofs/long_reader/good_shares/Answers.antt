use Rattle.std.proofs.Common.{◌≡◌, None, Some}
use Rattle.grid.proofs.Turns.{leaves_both, unchanged_both}
use Rattle.grid.proofs.Views.{tell_on_both, still_both}
use Rattle.caps.specs.StorageIndex.{index_of}
use Rattle.file_shares.specs.Fit.{fit}
use Rattle.file_shares.specs.Ahead.{plain_from}
use Rattle.chk_file.proofs.Amid.{seen_second, found_second}
use Rattle.chk_file.proofs.long_reader.good_shares.Goals as goal

-- the stores were asked anew

pub returns-in-Err-NotEnoughShares-clause-leaves : goal.returns-in-Err-NotEnoughShares-clause-leaves
returns-in-Err-NotEnoughShares-clause-leaves g c = leaves_both c.args.grid.now c.verify_ready.new.grid c.verified-in-Err-NotEnoughShares.new.grid c.verify_ready.ensures.leaves c.verified-in-Err-NotEnoughShares.ensures.leaves

pub returns-in-Err-NotEnoughShares-clause-unchanged : goal.returns-in-Err-NotEnoughShares-clause-unchanged
returns-in-Err-NotEnoughShares-clause-unchanged g c all =
    let low = c.verify_ready.ensures in
    unchanged_both c.args.grid.now c.verify_ready.new.grid c.verified-in-Err-NotEnoughShares.new.grid (low.unchanged all) (c.verified-in-Err-NotEnoughShares.ensures.unchanged (low.leaves.honest all))

pub returns-in-Err-NotEnoughShares-clause-told : goal.returns-in-Err-NotEnoughShares-clause-told
returns-in-Err-NotEnoughShares-clause-told g c =
    tell_on_both c.args.grid.now c.verify_ready.new.grid c.verified-in-Err-NotEnoughShares.new.grid c.verify_ready.ensures.told c.verified-in-Err-NotEnoughShares.ensures.told

pub returns-in-Err-NotEnoughShares-clause-stand_still : goal.returns-in-Err-NotEnoughShares-clause-stand_still
returns-in-Err-NotEnoughShares-clause-stand_still g c =
    still_both c.args.grid.now c.verify_ready.new.grid c.verified-in-Err-NotEnoughShares.new.grid c.verify_ready.ensures.stand_still c.verified-in-Err-NotEnoughShares.ensures.stand_still

pub returns-in-Err-NotEnoughShares-clause-seen : goal.returns-in-Err-NotEnoughShares-clause-seen
returns-in-Err-NotEnoughShares-clause-seen g c all =
    let f = c.args.fields.now in
    let low = c.verify_ready.ensures in
    let second = c.verified-in-Err-NotEnoughShares in
    found_second c.args.grid.now c.verify_ready.new.grid second.new.grid (index_of f.key) (λ shares row. fit row f ≡ Some (plain_from f shares.items)) second.result
    low.leaves low.told low.stand_still second.ensures.told (second.ensures.seen (low.told.all all))

pub returns-in-Err-NotEnoughShares-clause-seen_missing : goal.returns-in-Err-NotEnoughShares-clause-seen_missing
returns-in-Err-NotEnoughShares-clause-seen_missing g c all none =
    let f = c.args.fields.now in
    let low = c.verify_ready.ensures in
    let second = c.verified-in-Err-NotEnoughShares in
    seen_second c.args.grid.now c.verify_ready.new.grid second.new.grid (index_of f.key) (λ row. fit row f ≡ None)
    low.leaves low.told low.stand_still second.ensures.told (second.ensures.seen_missing (low.told.all all) none)
