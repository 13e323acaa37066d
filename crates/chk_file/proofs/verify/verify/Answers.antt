use Rattle.std.proofs.Common.{◌≡◌, None, Some}
use Rattle.aes_ctr.specs.Crypt.{crypt}
use Rattle.grid.proofs.Turns.{leaves_both, unchanged_both}
use Rattle.grid.proofs.Views.{tell_on_both, still_both}
use Rattle.caps.specs.StorageIndex.{index_of}
use Rattle.file_shares.specs.Fit.{fit}
use Rattle.chk_file.proofs.Amid.{seen_second, found_second}
use Rattle.chk_file.proofs.verify.verify.Goals as goal

-- the second call was made

pub returns-in-Err-NotEnoughShares-clause-leaves : goal.returns-in-Err-NotEnoughShares-clause-leaves
returns-in-Err-NotEnoughShares-clause-leaves g c = leaves_both c.args.grid.now c.verify_low.new.grid c.verify_all.new.grid c.verify_low.ensures.leaves c.verify_all.ensures.leaves

pub returns-in-Err-NotEnoughShares-clause-unchanged : goal.returns-in-Err-NotEnoughShares-clause-unchanged
returns-in-Err-NotEnoughShares-clause-unchanged g c all =
    let low = c.verify_low.ensures in
    unchanged_both c.args.grid.now c.verify_low.new.grid c.verify_all.new.grid (low.unchanged all) (c.verify_all.ensures.unchanged (low.leaves.honest all))

pub returns-in-Err-NotEnoughShares-clause-told : goal.returns-in-Err-NotEnoughShares-clause-told
returns-in-Err-NotEnoughShares-clause-told g c = tell_on_both c.args.grid.now c.verify_low.new.grid c.verify_all.new.grid c.verify_low.ensures.told c.verify_all.ensures.told

pub returns-in-Err-NotEnoughShares-clause-stand_still : goal.returns-in-Err-NotEnoughShares-clause-stand_still
returns-in-Err-NotEnoughShares-clause-stand_still g c = still_both c.args.grid.now c.verify_low.new.grid c.verify_all.new.grid c.verify_low.ensures.stand_still c.verify_all.ensures.stand_still

pub returns-in-Err-NotEnoughShares-clause-seen : goal.returns-in-Err-NotEnoughShares-clause-seen
returns-in-Err-NotEnoughShares-clause-seen g c all =
    let f = c.args.fields.now in
    let low = c.verify_low.ensures in
    found_second c.args.grid.now c.verify_low.new.grid c.verify_all.new.grid (index_of f.key) (λ read row. fit row f ≡ Some (crypt f.key read.1.items)) c.verify_all.result
    low.leaves low.told low.stand_still c.verify_all.ensures.told (c.verify_all.ensures.seen (low.told.all all))

pub returns-in-Err-NotEnoughShares-clause-seen_missing : goal.returns-in-Err-NotEnoughShares-clause-seen_missing
returns-in-Err-NotEnoughShares-clause-seen_missing g c all none =
    let f = c.args.fields.now in
    let low = c.verify_low.ensures in
    seen_second c.args.grid.now c.verify_low.new.grid c.verify_all.new.grid (index_of f.key) (λ row. fit row f ≡ None)
    low.leaves low.told low.stand_still c.verify_all.ensures.told (c.verify_all.ensures.seen_missing (low.told.all all) none)
