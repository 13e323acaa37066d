use Rattle.std.proofs.Common.{◌≡◌, List, ℕ, Err, Some, sym, ap, subst, ◌∙◌}
use Rattle.caps.specs.StorageIndex.{index_of}
use Rattle.file_shares.specs.Fit.{fit}
use Rattle.chk_file.specs.Reached.{OfReached}
use Rattle.chk_file.specs.Amid.{IsKeptOrSeen}
use Rattle.file_shares.specs.declared.fault.ReadFault.TheVariants.{NotEnoughShares}
use Rattle.chk_file.proofs.Encoded.{same_error}
use Rattle.chk_file.proofs.Freshness.{fresh_within}
use Rattle.grid.proofs.Views.{tell_on_none, still_none}
use Rattle.chk_file.proofs.Amid.{kept_after, kept_or_seen_after}
use Rattle.chk_file.proofs.listing_ahead.read_counted.Goals as goal

pub returns-in_err-from_vec-in-Ok-clause-fresh : goal.returns-in_err-from_vec-in-Ok-clause-fresh
returns-in_err-from_vec-in-Ok-clause-fresh g c fresh = c.read.ensures.fresh (fresh_within c.args.cache.now c.counted_now.new.cache c.args.grid.now c.counted_now.ensures.within fresh)

pub returns-in_err-new-in-Ok-clause-fresh : goal.returns-in_err-new-in-Ok-clause-fresh
returns-in_err-new-in-Ok-clause-fresh g c fresh = c.read.ensures.fresh (fresh_within c.args.cache.now c.counted_now.new.cache c.args.grid.now c.counted_now.ensures.within fresh)

pub returns-in_ok-new-in-Ok-clause-fresh : goal.returns-in_ok-new-in-Ok-clause-fresh
returns-in_ok-new-in-Ok-clause-fresh g c fresh = c.read.ensures.fresh (fresh_within c.args.cache.now c.counted_now.new.cache c.args.grid.now c.counted_now.ensures.within fresh)

pub returns-in-Err-clause-fresh : goal.returns-in-Err-clause-fresh
returns-in-Err-clause-fresh g c fresh = c.read.ensures.fresh (fresh_within c.args.cache.now c.counted_now.new.cache c.args.grid.now c.counted_now.ensures.within fresh)

pub returns-in-Some-clause-stand_still : goal.returns-in-Some-clause-stand_still
returns-in-Some-clause-stand_still g c = still_none c.args.grid.now

pub returns-in-Some-clause-told : goal.returns-in-Some-clause-told
returns-in-Some-clause-told g c = tell_on_none c.args.grid.now

pub returns-in_ok-new-in-Ok-clause-fit : goal.returns-in_ok-new-in-Ok-clause-fit
returns-in_ok-new-in-Ok-clause-fit g c fresh all calm =
    c.in-Ok.ensures.fit (fresh_within c.args.cache.now c.counted_now.new.cache c.args.grid.now c.counted_now.ensures.within fresh) all calm ∙ ap Some (sym (c.in_ok-new-in-Ok.ensures ∙ c.in_ok-from_vec-in-Ok.ensures))

pub returns-in_ok-new-in-Ok-clause-fit_reached : goal.returns-in_ok-new-in-Ok-clause-fit_reached
returns-in_ok-new-in-Ok-clause-fit_reached g c fresh all =
    let f = c.args.fields.now in
    subst (λ (bytes : List ℕ). OfReached c.args.grid.now c.read.new.grid (index_of f.key) (λ row. fit row f ≡ Some bytes)) (sym (c.in_ok-new-in-Ok.ensures ∙ c.in_ok-from_vec-in-Ok.ensures))
    (c.in-Ok.ensures.fit_reached (fresh_within c.args.cache.now c.counted_now.new.cache c.args.grid.now c.counted_now.ensures.within fresh) all)

pub returns-in_ok-new-in-Ok-clause-seen : goal.returns-in_ok-new-in-Ok-clause-seen
returns-in_ok-new-in-Ok-clause-seen g c all =
    let f = c.args.fields.now in
    subst (λ (bytes : List ℕ). IsKeptOrSeen c.args.cache.now c.args.grid.now c.read.new.grid f bytes) (sym (c.in_ok-new-in-Ok.ensures ∙ c.in_ok-from_vec-in-Ok.ensures))
    (kept_or_seen_after c.args.grid.now c.read.new.grid c.args.cache.now c.counted_now.new.cache f c.in-Ok.bytes.items c.counted_now.ensures.within (c.in-Ok.ensures.seen all))

pub returns-in-Err-clause-missing_reached : goal.returns-in-Err-clause-missing_reached
returns-in-Err-clause-missing_reached g c all none = c.in-Err.ensures.missing_reached all (ap Err (same_error c.in-Err.fault NotEnoughShares none))

pub returns-in_err-from_vec-in-Ok-clause-kept_seen : goal.returns-in_err-from_vec-in-Ok-clause-kept_seen
returns-in_err-from_vec-in-Ok-clause-kept_seen g c all = kept_after c.args.grid.now c.read.new.grid c.args.cache.now c.counted_now.new.cache c.read.new.cache c.counted_now.ensures.within (c.read.ensures.kept_seen all)

pub returns-in_err-new-in-Ok-clause-kept_seen : goal.returns-in_err-new-in-Ok-clause-kept_seen
returns-in_err-new-in-Ok-clause-kept_seen g c all = kept_after c.args.grid.now c.read.new.grid c.args.cache.now c.counted_now.new.cache c.read.new.cache c.counted_now.ensures.within (c.read.ensures.kept_seen all)

pub returns-in_ok-new-in-Ok-clause-kept_seen : goal.returns-in_ok-new-in-Ok-clause-kept_seen
returns-in_ok-new-in-Ok-clause-kept_seen g c all = kept_after c.args.grid.now c.read.new.grid c.args.cache.now c.counted_now.new.cache c.read.new.cache c.counted_now.ensures.within (c.read.ensures.kept_seen all)

pub returns-in-Err-clause-kept_seen : goal.returns-in-Err-clause-kept_seen
returns-in-Err-clause-kept_seen g c all = kept_after c.args.grid.now c.read.new.grid c.args.cache.now c.counted_now.new.cache c.read.new.cache c.counted_now.ensures.within (c.read.ensures.kept_seen all)
