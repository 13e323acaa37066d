use Rattle.std.proofs.Common.{◌≡◌, [], ◌∷◌, Some, ap, subst, ◌∙◌, arith}
use Rattle.json.specs.Json.{value}
use Rattle.json.specs.Lex.{tokens}
use Rattle.json.specs.Reads.{token_of}
use Rattle.json.proofs.Grammar.{value_is}
use Rattle.serde_json.specs.Data.{object, no_members}
use Rattle.serde_json.specs.Read.{of_json, converted}
use Rattle.children_reader.proofs.PutMembers.{MembersAre, object_begins, object_read}
use Rattle.children_reader.proofs.ReadChildren.{whole_bad, whole_more, object_in, object_bad}
use Rattle.children_reader.proofs.members.members_once.Goals as goal

pub returns-in_err-ok_or-clause-err : goal.returns-in_err-ok_or-clause-err
returns-in_err-ok_or-clause-err c not_json =
    let ts = tokens c.args.text.now in
    let empty : ts ≡ [] = grind arith in
    whole_bad ts (ap (converted of_json) (ap (value 127) empty ∙ value_is 127 []))

pub returns-in_err-found-clause-err : goal.returns-in_err-found-clause-err
returns-in_err-found-clause-err c not_json =
    let ts = tokens c.args.text.now in
    let rest = c.next.new.self in
    let first : ts ≡ token_of c.in_ok-ok_or.field-0 ∷ rest = grind arith in
    object_bad ts rest (object_begins ts _ rest c.requires first) (c.gather_children.ensures.err (grind arith))

pub returns-in_err-end-clause-err : goal.returns-in_err-end-clause-err
returns-in_err-end-clause-err c not_json =
    let ts = tokens c.args.text.now in
    let rest = c.next.new.self in
    let first : ts ≡ token_of c.in_ok-ok_or.field-0 ∷ rest = grind arith in
    let got = c.in_ok-found.ensures.ok no_members in
    let left = c.in_err-end.ensures.err (grind arith) in
    whole_more ts (object got.0) left.0 left.1 (object_in ts rest c.gather_children.new.reader got.0 (object_begins ts _ rest c.requires first) got.1 ∙ ap (λ xs. Some (object got.0, xs)) left.2)

pub returns-clause-ok : goal.returns-clause-ok
returns-clause-ok c =
    let ts = tokens c.args.text.now in
    let rest = c.next.new.self in
    let first : ts ≡ token_of c.in_ok-ok_or.field-0 ∷ rest = grind arith in
    let es = c.in_ok-found.found.items in
    object_read es ts rest (object_begins ts _ rest c.requires first) (subst (λ xs. MembersAre es rest xs) c.in_ok-end.ensures.ok c.in_ok-found.ensures.ok)
