use Rattle.std.proofs.Common.{◌≡◌, [], ◌∷◌, ◌++◌, refl, arith}
use Rattle.json_spelling.proofs.TokensJudged.{inner_ended}
use Rattle.json_spelling.proofs.judge.Judge.end_value.Goals as goal

pub returns-in_ok-push-in-Some : goal.returns-in_ok-push-in-Some
returns-in_ok-push-in-Some c =
    let rest = c.pop.new.self.items in
    let b = c.in-Some.around in
    let after = c.in_ok-after_value-in-Some.field-0 in
    let was : c.args.self.now.opened.items ≡ rest ++ b ∷ [] = grind arith in
    let now : c.push.new.self.items ≡ rest ++ after ∷ [] = grind arith in
    inner_ended c.args.self.now _ rest b after c.args.object c.args.fit was now refl c.in_ok-after_value-in-Some.ensures
