use Rattle.std.proofs.Common.{◌≡◌, length, ap, sym, ◌∙◌, arith, Some}
use Rattle.std.proofs.lemmas.List.{length-replicate}
use Rattle.std.specs.Option.{option_map}
use Rattle.share_store.specs.Shares.{Shares, ShareKey}
use Rattle.share_store.specs.Stored.{shares_in}
use Rattle.share_store.proofs.Sizes.{left_after}
use Rattle.share_store.proofs.Stands.{some_lost}
use Rattle.share_store.specs.Stored.{blank}
use Rattle.shelf_store.proofs.share_sizes.ShareSizes.remove.Goals as goal

pub invariant_of-self : goal.invariant_of-self
invariant_of-self c =
    let m : Shares = shares_in blank c.args.self.now.lengths.indexes in
    let n : Shares = shares_in blank c.remove.new.self.indexes in
    let key : ShareKey = (c.args.index.now, c.args.number) in
    record {
      summed = omega (arith, c.args.self.now.summed, left_after m n key _ (ap (option_map blank) (sym c.in-None.is) ∙ c.remove.ensures.value) c.remove.ensures.shares);
      some = some_lost m n key c.args.self.now.some c.remove.ensures.shares;
      fits = c.args.self.now.fits;
    }

pub overflow_add-self : goal.overflow_add-self
overflow_add-self c =
    let m : Shares = shares_in blank c.args.self.now.lengths.indexes in
    let n : Shares = shares_in blank c.remove.new.self.indexes in
    let key : ShareKey = (c.args.index.now, c.args.number) in
    let long : length (blank c.in-Some.size) ≡ c.in-Some.size = length-replicate c.in-Some.size 0 in
    let left = left_after m n key (Some (blank c.in-Some.size)) (ap (option_map blank) (sym c.in-Some.is) ∙ c.remove.ensures.value) c.remove.ensures.shares in
    omega (arith, c.args.self.now.summed, c.args.self.now.fits, long, left)

pub overflow_sub-self : goal.overflow_sub-self
overflow_sub-self c =
    let m : Shares = shares_in blank c.args.self.now.lengths.indexes in
    let n : Shares = shares_in blank c.remove.new.self.indexes in
    let key : ShareKey = (c.args.index.now, c.args.number) in
    let long : length (blank c.in-Some.size) ≡ c.in-Some.size = length-replicate c.in-Some.size 0 in
    let left = left_after m n key (Some (blank c.in-Some.size)) (ap (option_map blank) (sym c.in-Some.is) ∙ c.remove.ensures.value) c.remove.ensures.shares in
    omega (arith, c.args.self.now.summed, long, left)

pub invariant_of-self-in-Some : goal.invariant_of-self-in-Some
invariant_of-self-in-Some c =
    let m : Shares = shares_in blank c.args.self.now.lengths.indexes in
    let n : Shares = shares_in blank c.remove.new.self.indexes in
    let key : ShareKey = (c.args.index.now, c.args.number) in
    let long : length (blank c.in-Some.size) ≡ c.in-Some.size = length-replicate c.in-Some.size 0 in
    let left = left_after m n key (Some (blank c.in-Some.size)) (ap (option_map blank) (sym c.in-Some.is) ∙ c.remove.ensures.value) c.remove.ensures.shares in
    record {
      summed = omega (arith, c.args.self.now.summed, long, left);
      some = some_lost m n key c.args.self.now.some c.remove.ensures.shares;
      fits = omega (arith, c.args.self.now.summed, c.args.self.now.fits, long, left);
    }

pub returns-in-Some-clause-room : goal.returns-in-Some-clause-room
returns-in-Some-clause-room c =
    let m : Shares = shares_in blank c.args.self.now.lengths.indexes in
    let n : Shares = shares_in blank c.remove.new.self.indexes in
    let key : ShareKey = (c.args.index.now, c.args.number) in
    let long : length (blank c.in-Some.size) ≡ c.in-Some.size = length-replicate c.in-Some.size 0 in
    let left = left_after m n key (Some (blank c.in-Some.size)) (ap (option_map blank) (sym c.in-Some.is) ∙ c.remove.ensures.value) c.remove.ensures.shares in
    omega (arith, c.args.self.now.summed, long, left)
