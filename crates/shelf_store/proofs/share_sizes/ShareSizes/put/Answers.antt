use Rattle.std.proofs.Common.{◌≡◌, ◌<◌, ℕ, length, ap, sym, subst, ◌∙◌, arith}
use Rattle.std.proofs.lemmas.List.{length-replicate}
use Rattle.share_store.specs.Shares.{Shares, ShareKey, bytes_of}
use Rattle.share_store.specs.Stored.{shares_in}
use Rattle.share_store.proofs.Sizes.{inserted}
use Rattle.share_store.proofs.Stands.{some_put}
use Rattle.share_store.specs.Stored.{blank}
use Rattle.shelf_store.proofs.share_sizes.ShareSizes.put.Goals as goal

pub invariant_of-self-2 : goal.invariant_of-self-2
invariant_of-self-2 c =
    let m : Shares = shares_in blank c.args.self.now.lengths.indexes in
    let n : Shares = shares_in blank c.insert.new.self.indexes in
    let key : ShareKey = (c.args.index, c.args.number) in
    let long : length (blank c.args.size) ≡ c.args.size = length-replicate c.args.size 0 in
    let more = ap bytes_of c.in_ok-insert.ensures.ok ∙ inserted m key (blank c.args.size) c.requires.none in
    record {
      summed = omega (arith, long, more, c.args.self.now.summed);
      some = some_put m n key (blank c.args.size) c.args.self.now.some (subst (λ (s : ℕ). 0 < s) (sym long) c.requires.some) c.in_ok-insert.ensures.ok;
      fits = omega (arith, c.args.self.now.fits, c.if-size-self.false);
    }
