use Rattle.std.proofs.Common.{◌≡◌, [], ◌∷◌, Some, ap, ◌∙◌, arith}
use Rattle.std.proofs.lemmas.Result.{on_ok_weaker}
use Rattle.json.specs.Json.{value}
use Rattle.json.specs.Lex.{tokens}
use Rattle.json.specs.Reads.{token_of}
use Rattle.json.proofs.Grammar.{value_is}
use Rattle.serde_json.specs.Read.{of_json, converted}
use Rattle.children_reader.proofs.PutMembers.{other_begins}
use Rattle.children_reader.proofs.ReadChildren.{no_object, whole_is, whole_bad, whole_more}
use Rattle.children_reader.proofs.members.other_once.Goals as goal

pub returns-in_err-token-clause-err : goal.returns-in_err-token-clause-err
returns-in_err-token-clause-err c not_json =
    let ts = tokens c.args.text.now in
    let empty : ts ≡ [] = grind arith in
    whole_bad ts (ap (converted of_json) (ap (value 127) empty ∙ value_is 127 []))

pub returns-in_err-pass_by-clause-err : goal.returns-in_err-pass_by-clause-err
returns-in_err-pass_by-clause-err c not_json =
    let ts = tokens c.args.text.now in
    let first : ts ≡ token_of c.in_ok-token.token ∷ c.next.new.self = grind arith in
    whole_bad ts (ap (λ xs. converted of_json (value 127 xs)) first ∙ c.in_err-pass_by.ensures.err (grind arith))

pub returns-clause-ok : goal.returns-clause-ok
returns-clause-ok c =
    let ts = tokens c.args.text.now in
    let t = token_of c.in_ok-token.token in
    let rest = c.next.new.self in
    let left = c.pass_by.new.reader in
    let first : ts ≡ t ∷ rest = grind arith in
    let done = c.in_ok-pass_by.ensures.ok in
    let read = ap (λ xs. converted of_json (value 127 xs)) first ∙ done.1 in
    let other = no_object 127 t rest done.0 left done.1 (other_begins ts t rest c.requires first) in
    on_ok_weaker c.end.result (λ (none : left ≡ []). (done.0, whole_is ts done.0 (read ∙ ap (λ xs. Some (done.0, xs)) none), other)) c.end.ensures.ok

pub returns-clause-err : goal.returns-clause-err
returns-clause-err c not_json =
    let ts = tokens c.args.text.now in
    let t = token_of c.in_ok-token.token in
    let rest = c.next.new.self in
    let first : ts ≡ t ∷ rest = grind arith in
    let done = c.in_ok-pass_by.ensures.ok in
    let left = c.end.ensures.err not_json in
    whole_more ts done.0 left.0 left.1 (ap (λ xs. converted of_json (value 127 xs)) first ∙ done.1 ∙ ap (λ xs. Some (done.0, xs)) left.2)
