use Rattle.std.proofs.Common.{◌≡◌, ◌+◌, ℕ, List, length, sym, ap, subst, ◌∙◌, arith}
use Rattle.std.specs.Prelude.{IsSomeAnd}
use Rattle.std.proofs.lemmas.Bool.{eqb-true}
use Rattle.folder_shelf.specs.Sealed.{sealed}
use Rattle.folder_shelf.proofs.Seals.{length-sealed}
use Rattle.folder_shelf.proofs.file_text.share_in.Goals as goal

pub returns-then-is_empty-clause-rotten : goal.returns-then-is_empty-clause-rotten
returns-then-is_empty-clause-rotten c bytes some is =
    let text : List ℕ = c.in_ok-text.field-0.items in
    let said : text ≡ sealed bytes = subst (λ o. IsSomeAnd o (λ t. t.items ≡ sealed bytes)) c.in_ok-text.was is in
    let whole : text ≡ sealed c.in_ok-bytes.bytes.items = c.in_ok-bytes.ensures.whole in
    let none : length c.as_slice.result.now ≡ 0 = eqb-true (length c.as_slice.result.now) 0 (sym c.is_empty.ensures ∙ c.if-is_empty.true) in
    omega (arith, some, none, ap length c.as_slice.ensures.value, ap length said, ap length whole, length-sealed bytes, length-sealed c.in_ok-bytes.bytes.items)
