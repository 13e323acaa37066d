use Rattle.std.proofs.Common.{◌≡◌, [], ◌∷◌, ◌++◌, reverse, refl, sym, ap, ◌∙◌, arith}
use Rattle.json_tree.specs.declared.builder.Opened.{Opened}
use Rattle.json_tree.proofs.Ends.{reverse_more}
use Rattle.json_tree.proofs.Frames.{array_closed, array_end_refused, reopened, like_array, is_array, nothing_open, not_array, put_back}
use Rattle.json_tree.proofs.builder.TreeBuilder.end_array.Goals as goal

pub returns-in_default-clause-err : goal.returns-in_default-clause-err
returns-in_default-clause-err c not_json =
    array_end_refused c.args.self.now (ap is_array (nothing_open c.args.self.now.opened.items c.pop.new.self.items (grind arith) (grind arith)))

pub returns : goal.returns
returns c =
    let rest = c.pop.new.self.items in
    let x = c.in-Some.innermost in
    let was : c.args.self.now.opened.items ≡ rest ++ x ∷ [] = grind arith in
    let refused = array_end_refused c.args.self.now (ap is_array (ap reverse was ∙ reverse_more rest x) ∙ not_array x (reverse rest) c.in_default-innermost.not-Array) in
    let stays = put_back c.args.self.now _ rest x x (λ frame has. has) was c.push_reserved-in_default-innermost.ensures.items refl refl in
    record { ok = tt; err = λ not_json. refused; stays = stays }

pub returns-in-Ok-clause-ok : goal.returns-in-Ok-clause-ok
returns-in-Ok-clause-ok c =
    let rest = c.pop.new.self.items in
    let items = c.in-Array.items in
    let was : c.args.self.now.opened.items ≡ rest ++ Opened.Array items ∷ [] = grind arith in
    array_closed c.args.self.now _ c.put.new.self rest items was refl refl refl c.in-Ok.ensures.ok

pub returns-in-Err-Array-clause-stays : goal.returns-in-Err-Array-clause-stays
returns-in-Err-Array-clause-stays c =
    let rest = c.pop.new.self.items in
    let items = c.in-Array.items in
    let was : c.args.self.now.opened.items ≡ rest ++ Opened.Array items ∷ [] = grind arith in
    let same = sym c.in-Err-Array.field-0-is ∙ c.in-Err-Array.ensures.returned in
    let like = like_array items c.in-Err-Array.items same in
    let again : c.push_reserved.new.self.items ≡ c.put.new.self.opened.items ++ Opened.Array c.in-Err-Array.items ∷ [] = c.push_reserved.ensures.items ∙ ap (λ v. c.put.new.self.opened.items ++ Opened.Array v ∷ []) c.in-Err-Array.items-is in
    reopened c.args.self.now _ c.put.new.self _ rest (Opened.Array items) (Opened.Array c.in-Err-Array.items) like was refl refl refl c.in-Err-Array.ensures.stays again refl refl
