use Rattle.std.proofs.Common.{◌≡◌, ◌<◌, ◌+◌, ℕ, List, length, get_or, sym, ap, ◌∙◌, arith}
use Rattle.std.specs.List.{AllWithin}
use Rattle.std.proofs.lemmas.List.{get_or_default}
use Rattle.std.proofs.lemmas.List.Elements.{AllWithin-more}
use Rattle.store_care.proofs.images.hold_nothing.Goals as goal

-- one more that counts nothing
one_more : {X : Type 0} (count : X → ℕ) (xs : List X) (i : ℕ) (x : X) → AllWithin (λ y. count y ≡ 0) xs 0 i → x ≡ get_or xs i x → i < length xs
    → count x ≡ 0 → AllWithin (λ y. count y ≡ 0) xs 0 (i + 1)
one_more count xs i x before is below none =
    AllWithin-more (λ y. count y ≡ 0) xs 0 i before (λ d. sym (ap count (is ∙ get_or_default xs i x d below)) ∙ none)

pub loop-store-preserved : goal.loop-store-preserved
loop-store-preserved g c =
    one_more (λ store. store.sizes.held) c.args.stores.now c.loop-store.store-index c.store-item.result c.loop-store.invariant c.store-item.is
    c.loop-store-test.true (sym c.held.ensures ∙ c.if-held-ne0.false)

pub returns : goal.returns
returns g c _ k d high = c.loop-store.invariant k d (omega arith) (omega (high, c.loop-store-test.false, arith))
