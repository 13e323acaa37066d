use Rattle.std.proofs.Common.{◌≡◌, [], ◌∷◌, sym, ap, ap₂, ◌∙◌, refl, arith}
use Rattle.json.specs.Json.{value, parse_map}
use Rattle.json.specs.Reads.{token_of}
use Rattle.json.proofs.Grammar.{value_is}
use Rattle.serde_json.specs.Data.{object}
use Rattle.serde_json.specs.Read.{of_json, converted}
use Rattle.json_spelling.proofs.ReadData.{object_opened, object_first}
use Rattle.children_reader.proofs.ReadChildren.{no_object}
use Rattle.children_reader.proofs.members.read_object.Goals as goal

pub returns-in_err-token-clause-err : goal.returns-in_err-token-clause-err
returns-in_err-token-clause-err c not_json =
    let empty : c.args.reader.now ≡ [] = grind arith in
    ap (converted of_json) (ap (value c.args.depth) empty ∙ value_is c.args.depth [])

pub returns-then-not-opens_object-clause-ok : goal.returns-then-not-opens_object-clause-ok
returns-then-not-opens_object-clause-ok c =
    let first : c.args.reader.now ≡ token_of c.in_ok-token.token ∷ c.next.new.self = grind arith in
    let done = c.in_ok-pass_by.ensures.ok in
    let is = ap (λ ts. converted of_json (value c.args.depth ts)) first in
    (done.0, is ∙ done.1, no_object c.args.depth (token_of c.in_ok-token.token) c.next.new.self done.0 c.pass_by.new.reader done.1 (sym c.opens_object.ensures ∙ c.if-not-opens_object.true))

pub returns-then-depth-eq0-clause-err : goal.returns-then-depth-eq0-clause-err
unfolding value
returns-then-depth-eq0-clause-err c not_json =
    let first : c.args.reader.now ≡ token_of c.in_ok-token.token ∷ c.next.new.self = grind arith in
    let opened = object_first c.args.reader.now (token_of c.in_ok-token.token) c.next.new.self first (sym c.opens_object.ensures ∙ c.if-not-opens_object.false) in
    let none : c.args.depth ≡ 0 = omega arith in
    ap (converted of_json) (ap₂ value none opened)

pub returns-in_err-fields-clause-err : goal.returns-in_err-fields-clause-err
returns-in_err-fields-clause-err c not_json =
    let first : c.args.reader.now ≡ token_of c.in_ok-token.token ∷ c.next.new.self = grind arith in
    let opened = object_first c.args.reader.now (token_of c.in_ok-token.token) c.next.new.self first (sym c.opens_object.ensures ∙ c.if-not-opens_object.false) in
    ap (λ ts. converted of_json (value c.args.depth ts)) opened ∙ object_opened c.args.depth c.next.new.self (omega arith) ∙ ap (parse_map object) (c.gather_fields.ensures.err (grind arith))

pub returns-clause-ok : goal.returns-clause-ok
returns-clause-ok c =
    let first : c.args.reader.now ≡ token_of c.in_ok-token.token ∷ c.next.new.self = grind arith in
    let opened = object_first c.args.reader.now (token_of c.in_ok-token.token) c.next.new.self first (sym c.opens_object.ensures ∙ c.if-not-opens_object.false) in
    let done = c.in_ok-fields.ensures.ok in
    (object done.0, ap (λ ts. converted of_json (value c.args.depth ts)) opened ∙ object_opened c.args.depth c.next.new.self (omega arith) ∙ ap (parse_map object) done.1, (done.0, refl, done.2))
