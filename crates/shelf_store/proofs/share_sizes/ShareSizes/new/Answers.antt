use Rattle.std.proofs.Common.{ap, sym, ◌∙◌, arith}
use Rattle.share_store.specs.Shares.{bytes_of}
use Rattle.share_store.specs.Stored.{shares_in}
use Rattle.share_store.proofs.Sizes.{bytes-empty}
use Rattle.share_store.proofs.Stands.{empty_has_none}
use Rattle.share_store.specs.Stored.{blank}
use Rattle.shelf_store.proofs.share_sizes.ShareSizes.new.Goals as goal

pub invariant_of-result : goal.invariant_of-result
invariant_of-result c = record {
  summed = sym (ap bytes_of c.new.ensures ∙ bytes-empty);
  some = empty_has_none (shares_in blank c.new.result.indexes) c.new.ensures;
  fits = omega (arith, c.ranges.room.fits);
}
