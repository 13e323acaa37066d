use Rattle.std.proofs.Common.{◌≡◌, Some, reverse, refl, sym, ap, ◌∙◌, arith}
use Rattle.json_spelling.specs.Speller.{value_awaited}
use Rattle.json_spelling.proofs.Following.{value_begun}
use Rattle.json_spelling.proofs.speller.Speller.begin_value.Goals as goal

pub returns-clause-ok : goal.returns-clause-ok
returns-clause-ok c =
    let later = c.in_ok-later.later in
    let found : c.awaited.result ≡ Some later = grind arith in
    let some : value_awaited (reverse c.args.self.now.opened.items) ≡ Some later = ap (λ os. value_awaited (reverse os)) (sym c.as_slice.ensures.value) ∙ sym c.awaited.ensures ∙ found in
    value_begun c.args.self.now _ later c.if-self.false some c.in_ok-separate.ensures refl refl refl (refl, refl)
