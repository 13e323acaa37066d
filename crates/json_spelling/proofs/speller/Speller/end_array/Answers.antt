use Rattle.std.proofs.Common.{◌≡◌, [], ◌∷◌, ◌++◌, None, length, refl, arith}
use Rattle.json_spelling.specs.declared.speller.Opened.{Opened}
use Rattle.json_spelling.proofs.Following.{after_closed, array_closed, array_end_refused}
use Rattle.json_spelling.proofs.speller.Speller.end_array.Goals as goal

pub returns-in_err-array_in-clause-err : goal.returns-in_err-array_in-clause-err
returns-in_err-array_in-clause-err c not_json =
    let none : c.pop.result ≡ None → length c.args.self.now.opened.items ≡ 0 = λ is. grind arith in
    array_end_refused c.args.self.now c.pop.new.self.items c.pop.result c.pop.ensures.items none (c.array_in.ensures.err (grind arith))

pub returns-clause-ok : goal.returns-clause-ok
returns-clause-ok c =
    let rest = c.pop.new.self.items in
    let later = c.in_ok-array_in.field-0 in
    let was : c.args.self.now.opened.items ≡ rest ++ Opened.Array later ∷ [] = grind arith in
    λ s at. after_closed _ c.end_value.new.self _ (array_closed c.args.self.now _ rest later was refl refl refl (refl, refl) c.in_ok-push.ensures.items s at) c.in_ok-end_value.ensures
