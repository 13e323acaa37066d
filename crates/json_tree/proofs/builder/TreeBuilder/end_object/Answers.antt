use Rattle.std.proofs.Common.{◌≡◌, [], ◌∷◌, ◌++◌, reverse, refl, sym, ap, ◌∙◌, arith}
use Rattle.json_tree.specs.declared.builder.Opened.{Opened}
use Rattle.json_tree.proofs.Ends.{reverse_more}
use Rattle.json_tree.proofs.Frames.{object_closed, object_end_refused, reopened, like_object, is_object, nothing_open, not_object, put_back}
use Rattle.json_tree.proofs.builder.TreeBuilder.end_object.Goals as goal

pub returns-in_default-clause-err : goal.returns-in_default-clause-err
returns-in_default-clause-err c not_json =
    object_end_refused c.args.self.now (ap is_object (nothing_open c.args.self.now.opened.items c.pop.new.self.items (grind arith) (grind arith)))

pub returns : goal.returns
returns c =
    let rest = c.pop.new.self.items in
    let x = c.in-Some.innermost in
    let was : c.args.self.now.opened.items ≡ rest ++ x ∷ [] = grind arith in
    let refused = object_end_refused c.args.self.now (ap is_object (ap reverse was ∙ reverse_more rest x) ∙ not_object x (reverse rest) c.in_default-innermost.not-Object) in
    let stays = put_back c.args.self.now _ rest x x (λ frame has. has) was c.push_reserved-in_default-innermost.ensures.items refl refl in
    record { ok = tt; err = λ not_json. refused; stays = stays }

pub returns-in-Ok-clause-ok : goal.returns-in-Ok-clause-ok
returns-in-Ok-clause-ok c =
    let rest = c.pop.new.self.items in
    let members = c.in-Object.members in
    let was : c.args.self.now.opened.items ≡ rest ++ Opened.Object members ∷ [] = grind arith in
    object_closed c.args.self.now _ c.put.new.self rest members was refl refl refl c.in-Ok.ensures.ok

pub returns-in-Err-Object-clause-stays : goal.returns-in-Err-Object-clause-stays
returns-in-Err-Object-clause-stays c =
    let rest = c.pop.new.self.items in
    let members = c.in-Object.members in
    let was : c.args.self.now.opened.items ≡ rest ++ Opened.Object members ∷ [] = grind arith in
    let same = sym c.in-Err-Object.field-0-is ∙ c.in-Err-Object.ensures.returned in
    let like = like_object members c.in-Err-Object.members same in
    let again : c.push_reserved.new.self.items ≡ c.put.new.self.opened.items ++ Opened.Object c.in-Err-Object.members ∷ [] = c.push_reserved.ensures.items ∙ ap (λ v. c.put.new.self.opened.items ++ Opened.Object v ∷ []) c.in-Err-Object.members-is in
    reopened c.args.self.now _ c.put.new.self _ rest (Opened.Object members) (Opened.Object c.in-Err-Object.members) like was refl refl refl c.in-Err-Object.ensures.stays again refl refl
