use Rattle.std.proofs.Common.{◌≡◌, [], ◌∷◌, ◌++◌, refl, arith}
use Rattle.json_tree.proofs.Frames.{taken_in, kept_out, ended_within, put_back}
use Rattle.json_tree.proofs.builder.TreeBuilder.put.Goals as goal

pub returns-in-None-clause-ok : goal.returns-in-None-clause-ok
returns-in-None-clause-ok c =
    let rest = c.pop.new.self.items in
    let x = c.in-Some.around in
    let y = c.with_value-around.result.0 in
    let was : c.args.self.now.opened.items ≡ rest ++ x ∷ [] = grind arith in
    let takes = taken_in x c.args.value y c.with_value-around.result.1 c.in-None.is c.with_value-around.ensures in
    ended_within c.args.value c.args.self.now _ rest x y takes was c.push_reserved.ensures.items refl refl

pub returns-in-Some-refused-clause-stays : goal.returns-in-Some-refused-clause-stays
returns-in-Some-refused-clause-stays c =
    let rest = c.pop.new.self.items in
    let x = c.in-Some.around in
    let y = c.with_value-around.result.0 in
    let was : c.args.self.now.opened.items ≡ rest ++ x ∷ [] = grind arith in
    let keeps = kept_out x c.args.value y c.with_value-around.result.1 c.in-Some-refused.value c.in-Some-refused.is c.with_value-around.ensures in
    put_back c.args.self.now _ rest x y keeps was c.push_reserved.ensures.items refl refl
