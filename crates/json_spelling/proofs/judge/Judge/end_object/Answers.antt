use Rattle.std.proofs.Common.{◌≡◌, [], ◌∷◌, ◌++◌, None, length, ◌&&◌, nat_lt, refl, ap, ◌∙◌, arith}
use Rattle.json_spelling.specs.declared.judge.Bracket.{Bracket}
use Rattle.json_spelling.proofs.TokensJudged.{object_judged, bars_object_end}
use Rattle.json_spelling.proofs.judge.Judge.end_object.Goals as goal

pub returns-in_err-noted-clause-err : goal.returns-in_err-noted-clause-err
returns-in_err-noted-clause-err c not_json =
    let none : c.pop.result ≡ None → length c.args.self.now.opened.items ≡ 0 = λ is. grind arith in
    bars_object_end c.args.self.now c.pop.new.self.items c.pop.result c.pop.ensures.items none (c.object_in.ensures.err (grind arith))

pub returns-clause-ok : goal.returns-clause-ok
returns-clause-ok c =
    let rest = c.pop.new.self.items in
    let noted = c.in_ok-noted.noted in
    let was : c.args.self.now.opened.items ≡ rest ++ Bracket.Object noted ∷ [] = grind arith in
    let many : c.len.result ≡ length rest = grind arith in
    object_judged c.args.self.now _ c.end_value.new.self rest noted c.is_empty.result c.fits-fit.result was refl refl c.is_empty.ensures (c.fits-fit.ensures ∙ ap (λ n. c.is_empty.result && nat_lt n 100) many) c.in_ok-end_value.ensures
