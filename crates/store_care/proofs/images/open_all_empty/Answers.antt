use Rattle.std.proofs.Common.{◌≡◌, List, subst}
use Rattle.std.specs.List.{All}
use Rattle.store_care.proofs.images.open_all_empty.Goals as goal

-- what all of a list have, all of the same list have
of_the_same : {X : Type 0} (P : X → Type 0) {xs ys : List X} → xs ≡ ys → All P xs → All P ys
of_the_same P is all = subst (λ (zs : List _). All P zs) is all

pub returns-clause-empty : goal.returns-clause-empty
returns-clause-empty g c = of_the_same (λ store. store.sizes.held ≡ 0) c.deref.ensures.value
    (c.hold_nothing.ensures c.if-not-hold_nothing.false)
