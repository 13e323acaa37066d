use Rattle.std.proofs.Common.{◌≡◌, [], ◌∷◌, ◌++◌, None, refl, sym, subst, ◌∙◌, arith}
use Rattle.std.proofs.lemmas.Result.{on_ok_weaker}
use Rattle.json_tree.specs.Writers.{StandsBefore, Reaches}
use Rattle.json_tree.proofs.Parted.{reached_value}
use Rattle.json_tree.proofs.writer.TextWriter.write_part.Goals as goal

pub returns-in-Value-clause-on : goal.returns-in-Value-clause-on
returns-in-Value-clause-on c =
    let old = c.args.self.now in
    let before = c.pop.new.self.items in
    let none : old.next ≡ None = grind arith in
    let was : old.rests.items ≡ before ++ c.in-Some-pop.rest ∷ [] = grind arith in
    let reaches = subst (Reaches old.out.items c.in-Some-pop.rest c.reach.new.out.items) c.in-Value.is c.in_ok-reach.ensures in
    on_ok_weaker c.begin-in-Value.result
    (λ begun d at. subst (λ n. StandsBefore d c.begin-in-Value.new.self n) (sym (begun.next ∙ c.take.ensures.after)) (begun.stands d (reached_value old _ before c.in-Some-pop.rest c.in-Value.left c.in-Value.value none was c.push_reserved.ensures.items refl refl reaches d at)))
    c.begin-in-Value.ensures
