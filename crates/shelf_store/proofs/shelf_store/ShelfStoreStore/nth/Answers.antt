use Rattle.std.proofs.Common.{◌≡◌, ◌∙◌, ℕ, List, Some, sym, ap, slice_get}
use Rattle.std.specs.Option.{option_map}
use Rattle.std.specs.FinMap.{entries}
use Rattle.std.specs.Rc.{rc_slice_items}
use Rattle.share_store.specs.Shares.{Shares, ShareKey, ShareEntry}
use Rattle.shelf_store.specs.Doubt.{in_doubt, as_before}
use Rattle.shelf_store.specs.Known.{known}
use Rattle.shelf_store.proofs.Sizes.{names_as}
use Rattle.share_store.proofs.Nth.{nth_found, nth_none, nth_stands}
use Rattle.shelf_store.proofs.shelf_store.ShelfStoreStore.nth.Goals as goal

pub returns-in_default-clause-found : goal.returns-in_default-clause-found
returns-in_default-clause-found g c h same =
    let self = c.args.self.now in
    let m : Shares = as_before (in_doubt self.doubt) (g.H.Shelf.shares self.shelf) in
    sym (nth_none m c.args.at (sym (names_as (known self.sizes) m (self.in_step.sizes h) c.args.at) ∙ sym c.nth.ensures.found ∙ c.in_default.is))

pub returns-in-None-clause-found : goal.returns-in-None-clause-found
returns-in-None-clause-found g c h same =
    let self = c.args.self.now in
    let m : Shares = as_before (in_doubt self.doubt) (g.H.Shelf.shares self.shelf) in
    let key : ShareKey = (c.in-Some.name.0, c.in-Some.name.1) in
    let name : option_map (λ (e : ShareEntry). e.0) (slice_get (entries m) c.args.at) ≡ Some key = sym (names_as (known self.sizes) m (self.in_step.sizes h) c.args.at) ∙ sym c.nth.ensures.found ∙ c.in-Some.is in
    absurd (nth_stands m c.args.at key name (sym (c.in_ok-look.ensures.found h same) ∙ ap (option_map rc_slice_items) c.in-None.is))

pub returns-in-Some-2-clause-found : goal.returns-in-Some-2-clause-found
returns-in-Some-2-clause-found g c h same =
    let self = c.args.self.now in
    let m : Shares = as_before (in_doubt self.doubt) (g.H.Shelf.shares self.shelf) in
    let key : ShareKey = (c.in-Some.name.0, c.in-Some.name.1) in
    let b : List ℕ = rc_slice_items c.in-Some-2.bytes in
    let name : option_map (λ (e : ShareEntry). e.0) (slice_get (entries m) c.args.at) ≡ Some key = sym (names_as (known self.sizes) m (self.in_step.sizes h) c.args.at) ∙ sym c.nth.ensures.found ∙ c.in-Some.is in
    sym (nth_found m c.args.at key b name (sym (c.in_ok-look.ensures.found h same) ∙ ap (option_map rc_slice_items) c.in-Some-2.is))
