use Rattle.std.proofs.Common.{◌≡◌, List, ℕ, IfOk, subst}
use Rattle.shelf_store.specs.Doubt.{in_doubt, as_before}
use Rattle.shelf_store.specs.Known.{known}
use Rattle.shelf_store.proofs.Sizes.{numbers_as}
use Rattle.shelf_store.proofs.shelf_store.ShelfStoreStore.numbers.Goals as goal

pub returns-clause-found : goal.returns-clause-found
returns-clause-found g c h same =
    let self = c.args.self.now in
    subst (λ (ns : List ℕ). IfOk c.numbers.result (λ numbers. numbers.items ≡ ns))
    (numbers_as (known self.sizes) (as_before (in_doubt self.doubt) (g.H.Shelf.shares self.shelf)) (self.in_step.sizes h) c.args.index) c.numbers.ensures
