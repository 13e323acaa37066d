use Rattle.std.proofs.Common.{◌≡◌, [], ◌∷◌, sym, ap, ap₂, ◌∙◌, arith}
use Rattle.std.proofs.lemmas.Result.{IfOk-weaker}
use Rattle.json.specs.Json.{value, parse_map}
use Rattle.json.specs.Reads.{token_of}
use Rattle.json.proofs.Grammar.{value_is}
use Rattle.serde_json.specs.Data.{array}
use Rattle.serde_json.specs.Read.{of_json, converted}
use Rattle.json_spelling.proofs.ReadData.{array_opened}
use Rattle.children_reader.proofs.ReadChildren.{no_child, array_first}
use Rattle.children_reader.proofs.members.read_node.Goals as goal

pub returns-in_err-token-clause-err : goal.returns-in_err-token-clause-err
returns-in_err-token-clause-err c not_json =
    let empty : c.args.reader.now ≡ [] = grind arith in
    ap (converted of_json) (ap (value c.args.depth) empty ∙ value_is c.args.depth [])

pub returns-then-not-opens_array-clause-ok : goal.returns-then-not-opens_array-clause-ok
returns-then-not-opens_array-clause-ok c =
    let first : c.args.reader.now ≡ token_of c.in_ok-token.token ∷ c.next.new.self = grind arith in
    let done = c.in_ok-pass_by.ensures.ok in
    let is = ap (λ ts. converted of_json (value c.args.depth ts)) first in
    (done.0, is ∙ done.1, no_child c.args.depth (token_of c.in_ok-token.token) c.next.new.self done.0 c.pass_by.new.reader done.1 (sym c.opens_array.ensures ∙ c.if-not-opens_array.true))

pub returns-then-depth-eq0-clause-err : goal.returns-then-depth-eq0-clause-err
unfolding value
returns-then-depth-eq0-clause-err c not_json =
    let first : c.args.reader.now ≡ token_of c.in_ok-token.token ∷ c.next.new.self = grind arith in
    let opened = array_first c.args.reader.now (token_of c.in_ok-token.token) c.next.new.self first (sym c.opens_array.ensures ∙ c.if-not-opens_array.false) in
    let none : c.args.depth ≡ 0 = omega arith in
    ap (converted of_json) (ap₂ value none opened)

pub returns-clause-ok : goal.returns-clause-ok
returns-clause-ok c =
    let first : c.args.reader.now ≡ token_of c.in_ok-token.token ∷ c.next.new.self = grind arith in
    let opened = array_first c.args.reader.now (token_of c.in_ok-token.token) c.next.new.self first (sym c.opens_array.ensures ∙ c.if-not-opens_array.false) in
    let is = ap (λ ts. converted of_json (value c.args.depth ts)) opened ∙ array_opened c.args.depth c.next.new.self (omega arith) in
    IfOk-weaker c.read_pair.result _ _ (λ node e. (array e.0, is ∙ ap (parse_map array) e.1, e.2)) c.read_pair.ensures.ok

pub returns-clause-err : goal.returns-clause-err
returns-clause-err c not_json =
    let first : c.args.reader.now ≡ token_of c.in_ok-token.token ∷ c.next.new.self = grind arith in
    let opened = array_first c.args.reader.now (token_of c.in_ok-token.token) c.next.new.self first (sym c.opens_array.ensures ∙ c.if-not-opens_array.false) in
    ap (λ ts. converted of_json (value c.args.depth ts)) opened ∙ array_opened c.args.depth c.next.new.self (omega arith) ∙ ap (parse_map array) (c.read_pair.ensures.err not_json)
