use Rattle.std.proofs.Common.{◌≡◌, [], ◌∷◌, ◌++◌, true, None, option_map, string_bytes, length, refl, sym, ap, ◌∙◌, arith, rules}
use Rattle.json.specs.Print.{quoted}
use Rattle.serde_json.specs.Written.{comma_if}
use Rattle.json_spelling.specs.Spelled.{rises}
use Rattle.json_spelling.specs.declared.speller.Opened.{Opened}
use Rattle.json_spelling.proofs.Following.{key_put, key_refused}
use Rattle.json_spelling.proofs.speller.Speller.push_key.Goals as goal

pub returns-in_err-last-clause-err : goal.returns-in_err-last-clause-err
returns-in_err-last-clause-err c not_json =
    let none : c.pop.result ≡ None → length c.args.self.now.opened.items ≡ 0 = λ is. grind arith in
    key_refused c.args.self.now c.pop.new.self.items c.pop.result c.pop.ensures.items none c.args.name.now (c.object_in.ensures.err (grind arith))

pub returns-clause-ok : goal.returns-clause-ok
returns-clause-ok c =
    let old = c.args.self.now in
    let rest = c.pop.new.self.items in
    let last = c.in_ok-last.last in
    let name = c.args.name.now in
    let key = c.in_ok-key.key in
    let was : old.opened.items ≡ rest ++ Opened.Object last ∷ [] = grind arith in
    let now : c.push.new.self.items ≡ rest ++ Opened.Member key ∷ [] = grind arith in
    let named : string_bytes key ≡ name = search rules in
    let shown : option_map (λ s. s.now) c.as_deref.result ≡ option_map string_bytes last = c.as_deref.ensures.value in
    let rising : rises (option_map string_bytes last) name ≡ true = ap (λ l. rises l name) (sym shown) ∙ sym c.rises.ensures ∙ c.if-not-rises.false in
    let parted = c.in_ok-separate.ensures ∙ ap (λ b. old.out.items ++ comma_if b) c.is_some.ensures in
    let written = c.in_ok-put.ensures.written ∙ ap (λ s. s ++ (quoted name ++ 58 ∷ [])) parted in
    key_put name key named last rising old _ rest was now written c.in_ok-put.ensures.utf8 refl refl (refl, refl)
