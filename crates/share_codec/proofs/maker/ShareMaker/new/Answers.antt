use Rattle.std.proofs.Common.{◌≡◌, [], length, ap, ◌∙◌, sym, subst}
use Rattle.share_codec.specs.Maker.{Maker, IsMaking}
use Rattle.share_codec.proofs.Making.{length-all_begun}
use Rattle.share_codec.proofs.Steps.{first_making}
use Rattle.share_codec.proofs.maker.ShareMaker.new.Goals as goal

pub invariant_of-result : goal.invariant_of-result
invariant_of-result c = (c.requires.some, ap length c.in_ok-drafts.ensures ∙ length-all_begun c.args.params.now _)

pub returns-clause-making : goal.returns-clause-making
returns-clause-making c crypttext long =
    let p = c.args.params.now in
    let ds = c.in_ok-drafts.drafts.items in
    let first : IsMaking (record { params = p; coded = 0; drafts = ds; segment_hashes = []; block_hashes = [] }) crypttext = first_making p ds crypttext c.in_ok-drafts.ensures long in
    let none : record { params = p; coded = 0; drafts = ds; segment_hashes = []; block_hashes = [] } ≡ record { params = p; coded = 0; drafts = ds; segment_hashes = c.new.result.items; block_hashes = c.new-2.result.items } =
    (λ i. record { params = p; coded = 0; drafts = ds; segment_hashes = (sym c.new.ensures.items) i; block_hashes = (sym c.new-2.ensures.items) i }) in
    subst (λ (m : Maker). IsMaking m crypttext) none first
