use Rattle.std.proofs.Common.{◌≡◌, [], ◌∷◌, ◌++◌, None, length, string_bytes, refl, arith}
use Rattle.json_spelling.specs.declared.judge.Bracket.{Bracket}
use Rattle.json_spelling.specs.declared.judge.Noted.{Noted}
use Rattle.json_spelling.proofs.TokensJudged.{key_judged, bars_key}
use Rattle.json_spelling.proofs.judge.Judge.push_key.Goals as goal

pub returns-in_err-noted-clause-err : goal.returns-in_err-noted-clause-err
returns-in_err-noted-clause-err c not_json =
    let none : c.pop.result ≡ None → length c.args.self.now.opened.items ≡ 0 = λ is. grind arith in
    bars_key c.args.self.now c.pop.new.self.items c.pop.result c.pop.ensures.items none (c.object_in.ensures.err (grind arith)) c.args.name.now

pub returns-clause-ok : goal.returns-clause-ok
returns-clause-ok c =
    let name = c.args.name.now in
    let rest = c.pop.new.self.items in
    let noted = c.in_ok-noted.noted in
    let after : Noted = record { unfit = noted.unfit; key = c.push_str.new.self } in
    let was : c.args.self.now.opened.items ≡ rest ++ Bracket.Object noted ∷ [] = grind arith in
    let named : string_bytes c.push_str.new.self ≡ name = grind arith in
    key_judged name c.args.self.now _ rest noted after was c.in_ok-push.ensures.items refl refl named
