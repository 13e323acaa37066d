use Rattle.std.proofs.Common.{◌≡◌, [], ◌∷◌, ◌++◌, reverse, refl, ap, ◌∙◌, arith}
use Rattle.json_tree.proofs.Ends.{reverse_more}
use Rattle.json_tree.proofs.Frames.{key_refused, is_object, nothing_open, not_object, put_back}
use Rattle.json_tree.proofs.builder.TreeBuilder.push_key.Goals as goal

pub returns-in_default-clause-err : goal.returns-in_default-clause-err
returns-in_default-clause-err c not_json =
    key_refused c.args.name.now c.args.self.now (ap is_object (nothing_open c.args.self.now.opened.items c.pop.new.self.items (grind arith) (grind arith)))

pub returns-in_default-innermost : goal.returns-in_default-innermost
returns-in_default-innermost c =
    let rest = c.pop.new.self.items in
    let x = c.in-Some.innermost in
    let was : c.args.self.now.opened.items ≡ rest ++ x ∷ [] = grind arith in
    let refused = key_refused c.args.name.now c.args.self.now (ap is_object (ap reverse was ∙ reverse_more rest x) ∙ not_object x (reverse rest) c.in_default-innermost.not-Object) in
    let stays = put_back c.args.self.now _ rest x x (λ frame has. has) was c.push_reserved-in_default-innermost.ensures.items refl refl in
    record { ok = tt; err = λ not_json. refused; stays = stays }
