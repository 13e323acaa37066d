use Rattle.std.proofs.Common.{◌≡◌, [], ◌∷◌, ◌++◌, None, length, not, ◌&&◌, nat_lt, refl, ap, ◌∙◌, arith}
use Rattle.json_spelling.specs.declared.judge.Bracket.{Bracket}
use Rattle.json_spelling.proofs.TokensJudged.{array_judged, bars_array_end}
use Rattle.json_spelling.proofs.judge.Judge.end_array.Goals as goal

pub returns-in_err-unfit-clause-err : goal.returns-in_err-unfit-clause-err
returns-in_err-unfit-clause-err c not_json =
    let none : c.pop.result ≡ None → length c.args.self.now.opened.items ≡ 0 = λ is. grind arith in
    bars_array_end c.args.self.now c.pop.new.self.items c.pop.result c.pop.ensures.items none (c.array_in.ensures.err (grind arith))

pub returns-clause-ok : goal.returns-clause-ok
returns-clause-ok c =
    let rest = c.pop.new.self.items in
    let unfit = c.in_ok-unfit.unfit in
    let was : c.args.self.now.opened.items ≡ rest ++ Bracket.Array unfit ∷ [] = grind arith in
    let many : c.len.result ≡ length rest = grind arith in
    array_judged c.args.self.now _ c.end_value.new.self rest unfit c.fits-fit.result was refl refl (c.fits-fit.ensures ∙ ap (λ n. not unfit && nat_lt n 100) many) c.in_ok-end_value.ensures
