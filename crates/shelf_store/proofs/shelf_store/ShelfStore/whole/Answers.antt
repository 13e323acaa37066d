use Rattle.std.proofs.Common.{◌≡◌, ◌∙◌, ℕ, Option, None, Some, Ok, length, refl, sym, ap, subst}
use Rattle.std.specs.Prelude.{IsTrue}
use Rattle.std.proofs.lemmas.List.{length-replicate}
use Rattle.std.specs.Option.{option_map}
use Rattle.std.specs.FinMap.{get}
use Rattle.std.specs.Rc.{rc_slice_items}
use Rattle.share_store.specs.Shares.{Shares, ShareKey}
use Rattle.share_store.specs.Stored.{blank}
use Rattle.shelf_store.specs.Known.{known}
use Rattle.shelf_store.specs.Sizes.{sizes_of}
use Rattle.shelf_store.specs.SizeLaws.{as_long}
use Rattle.shelf_store.specs.Standing.{standing, IsHonest}
use Rattle.shelf_store.proofs.Forgetting.{none_counted, forgotten, err_none, ok_no_err}
use Rattle.shelf_store.proofs.shelf_store.ShelfStore.whole.Given.{Over}
use Rattle.shelf_store.proofs.shelf_store.ShelfStore.whole.Goals as goal
use Rattle.shelf_store.proofs.shelf_store.ShelfStore.whole.Goals.{Else-len-size, In-Ok-None}

-- what stands is as long as the index has it
long : (i m : Shares) (key : ShareKey) (size : ℕ) → sizes_of i ≡ sizes_of m → get i key ≡ Some (blank size) → option_map length (get m key) ≡ Some size
long i m key size is at = sym (as_long i m is key) ∙ ap (option_map length) at ∙ ap Some (length-replicate size 0)

-- an honest shelf gives no other number of bytes
other : (g : Over) → (c : Else-len-size g) → IsHonest c.args.self.now → ⊥
other g c h =
    let self = c.args.self.now in
    let stands : option_map length (get (standing self) (c.args.index, c.args.number)) ≡ Some c.args.size = long (known self.sizes) (standing self) (c.args.index, c.args.number) c.args.size (self.in_step.sizes h) c.requires in
    let both : Some (length (rc_slice_items c.in-Ok-Some.bytes)) ≡ Some c.args.size =
    ap (λ o. option_map length (option_map rc_slice_items o)) (sym c.in-Ok-Some.field-0-is) ∙ ap (option_map length) (c.in-Ok-Some.ensures.given h) ∙ stands in
    let as_known : length (rc_slice_items c.in-Ok-Some.bytes) ≡ c.args.size = cc in
    c.if-len-size.false (c.len.ensures ∙ as_known)

-- and not none
none : (g : Over) → (c : In-Ok-None g) → IsHonest c.args.self.now → ⊥
none g c h =
    let self = c.args.self.now in
    let stands : option_map length (get (standing self) (c.args.index, c.args.number)) ≡ Some c.args.size = long (known self.sizes) (standing self) (c.args.index, c.args.number) c.args.size (self.in_step.sizes h) c.requires in
    let both : ◌≡◌ {A = Option ℕ} None (Some c.args.size) =
    ap (λ o. option_map length (option_map rc_slice_items o)) (sym c.in-Ok-None.field-0-is) ∙ ap (option_map length) (c.in-Ok-None.ensures.given h) ∙ stands in
    cc

pub forget-requires : goal.forget-requires
forget-requires g c h = other g (goal.at.forget-requires g c).Else-len-size (subst IsTrue c.stood.ensures.reads.read.honest h)

pub forget-requires-in-Ok-None : goal.forget-requires-in-Ok-None
forget-requires-in-Ok-None g c h = none g (goal.at.forget-requires-in-Ok-None g c).In-Ok-None (subst IsTrue c.stood.ensures.reads.read.honest h)

pub returns-in_err-forget-in-Ok-Some-clause-index : goal.returns-in_err-forget-in-Ok-Some-clause-index
returns-in_err-forget-in-Ok-Some-clause-index g c =
    forgotten c.from_residual.result c.forget.ensures.counts (other g (goal.at.returns-in_err-forget-in-Ok-Some-clause-index g c).Else-len-size) (λ more. ok_no_err (c.in-Ok-Some.ensures.failed.1 more)) (err_none _ _ c.from_residual.result c.from_residual.ensures.1) c.stood.ensures.sizes c.forget.ensures.gone c.forget.ensures.room

pub returns-in_ok-forget-in-Ok-Some-clause-failing : goal.returns-in_ok-forget-in-Ok-Some-clause-failing
returns-in_ok-forget-in-Ok-Some-clause-failing g c = none_counted (Ok None) c.forget.ensures.counts (other g (goal.at.returns-in_ok-forget-in-Ok-Some-clause-failing g c).Else-len-size) (λ more. ok_no_err (c.in-Ok-Some.ensures.failed.1 more))

pub returns-in_ok-forget-in-Ok-Some-clause-index : goal.returns-in_ok-forget-in-Ok-Some-clause-index
returns-in_ok-forget-in-Ok-Some-clause-index g c =
    forgotten (Ok None) c.forget.ensures.counts (other g (goal.at.returns-in_ok-forget-in-Ok-Some-clause-index g c).Else-len-size) (λ more. ok_no_err (c.in-Ok-Some.ensures.failed.1 more)) refl c.stood.ensures.sizes c.forget.ensures.gone c.forget.ensures.room

pub returns-in_err-forget-in-Ok-None-clause-index : goal.returns-in_err-forget-in-Ok-None-clause-index
returns-in_err-forget-in-Ok-None-clause-index g c =
    forgotten c.from_residual-in_err-forget-in-Ok-None.result c.forget-in-Ok-None.ensures.counts (none g (goal.at.returns-in_err-forget-in-Ok-None-clause-index g c).In-Ok-None) (λ more. ok_no_err (c.in-Ok-None.ensures.failed.1 more)) (err_none _ _ c.from_residual-in_err-forget-in-Ok-None.result c.from_residual-in_err-forget-in-Ok-None.ensures.1) c.stood.ensures.sizes c.forget-in-Ok-None.ensures.gone c.forget-in-Ok-None.ensures.room

pub returns-in_ok-forget-in-Ok-None-clause-failing : goal.returns-in_ok-forget-in-Ok-None-clause-failing
returns-in_ok-forget-in-Ok-None-clause-failing g c = none_counted (Ok None) c.forget-in-Ok-None.ensures.counts (none g (goal.at.returns-in_ok-forget-in-Ok-None-clause-failing g c).In-Ok-None) (λ more. ok_no_err (c.in-Ok-None.ensures.failed.1 more))

pub returns-in_ok-forget-in-Ok-None-clause-index : goal.returns-in_ok-forget-in-Ok-None-clause-index
returns-in_ok-forget-in-Ok-None-clause-index g c =
    forgotten (Ok None) c.forget-in-Ok-None.ensures.counts (none g (goal.at.returns-in_ok-forget-in-Ok-None-clause-index g c).In-Ok-None) (λ more. ok_no_err (c.in-Ok-None.ensures.failed.1 more)) refl c.stood.ensures.sizes c.forget-in-Ok-None.ensures.gone c.forget-in-Ok-None.ensures.room
