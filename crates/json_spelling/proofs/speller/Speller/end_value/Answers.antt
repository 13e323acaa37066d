use Rattle.std.proofs.Common.{◌≡◌, [], ◌∷◌, ◌++◌, refl, arith}
use Rattle.json_spelling.specs.Speller.{opened_after}
use Rattle.json_spelling.proofs.Following.{ended_within}
use Rattle.json_spelling.proofs.speller.Speller.end_value.Goals as goal

pub returns-in_ok-push-in-Some : goal.returns-in_ok-push-in-Some
returns-in_ok-push-in-Some c =
    let rest = c.pop.new.self.items in
    let x = c.in-Some.around in
    let was : c.args.self.now.opened.items ≡ rest ++ x ∷ [] = grind arith in
    let now : c.push.new.self.items ≡ rest ++ opened_after x ∷ [] = grind arith in
    λ s j d is. ended_within j d is c.args.self.now _ rest x was now refl refl refl (refl, refl) s
