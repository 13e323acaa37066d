use Rattle.std.proofs.Common.{◌∷◌, length, sym, ap, ◌∙◌, arith}
use Rattle.std.proofs.lemmas.Result.{err_from_is_err_and}
use Rattle.children_reader.proofs.Outcomes.{fault_made, same_made, new_made}
use Rattle.children_reader.proofs.naming.name_some.Goals as goal

pub returns-in_err-named-clause-err : goal.returns-in_err-named-clause-err
returns-in_err-named-clause-err c =
    let p = err_from_is_err_and c.from_residual.result c.from_residual.ensures.1 in
    let left = c.pop_first.new.self.entries in
    let turn = c.in-Some.ensures.removal ∙ ap (λ o. (c.in-Some._key, o) ∷ left) c.in_err-named.was in
    rw (p.1, p.2) (λ other ms before. fault_made c.loop-i.children.entries c.loop-i.left.entries c.in-Some._key c.in_err-named.field-0.0 left ms turn (c.loop-i.invariant.before ms before))

pub returns-then-is_some-clause-err : goal.returns-then-is_some-clause-err
returns-then-is_some-clause-err c other ms before =
    let left = c.pop_first.new.self.entries in
    let turn = c.in-Some.ensures.removal ∙ ap (λ o. (c.in-Some._key, o) ∷ left) c.in_ok-named.was in
    same_made c.loop-i.children.entries c.loop-i.left.entries c.in-Some._key c.into_inner-name.result.0 c.into_inner-name.result.1 c.in_ok-named.named left c.in_ok-old.old ms turn (sym c.into_inner-name.ensures) c.in_ok-old.ensures.old (sym c.is_some.ensures ∙ c.if-is_some.true)
    (c.loop-i.invariant.before ms before)

pub loop-i-preserved : goal.loop-i-preserved
loop-i-preserved c =
    let left = c.pop_first.new.self.entries in
    let turn = c.in-Some.ensures.removal ∙ ap (λ o. (c.in-Some._key, o) ∷ left) c.in_ok-named.was in
    let one = ap length c.in-Some.ensures.removal in
    let fewer = c.loop-i.invariant.fewer in
    record {
      fewer = omega (arith, one, fewer);
      before = λ ms before. new_made c.loop-i.children.entries c.insert.new.self.entries c.loop-i.left.entries c.in-Some._key c.into_inner-name.result.0 c.into_inner-name.result.1 c.in_ok-named.named left c.in_ok-old.old ms turn (sym c.into_inner-name.ensures) c.in_ok-old.ensures.old
          (sym c.is_some.ensures ∙ c.if-is_some.false) c.in_ok-old.ensures.entries (c.loop-i.invariant.before ms before);
    }
