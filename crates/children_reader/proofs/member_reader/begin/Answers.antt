use Rattle.std.proofs.Common.{◌≡◌, true, sym, ap, subst, arith}
use Rattle.json.specs.Reads.{token_of}
use Rattle.json_stack.specs.Machine.{start_state}
use Rattle.children_reader.specs.MemberReader.{IsBegunValue}
use Rattle.children_reader.specs.declared.fields.Field.{Field}
use Rattle.children_reader.specs.declared.member_reader.Begun.{Begun}
use Rattle.children_reader.proofs.ValuesUnderWay.{begun_null, begun_boolean, begun_text, begun_numeral, begins_none, no_first}
use Rattle.children_reader.proofs.member_reader.begin.Goals as goal

pub returns-in_err-go_over-in-Number-clause-err : goal.returns-in_err-go_over-in-Number-clause-err
returns-in_err-go_over-in-Number-clause-err c not_json = c.go_over.ensures.err (grind arith) (start_state c.args.levels) c.within.ensures

pub returns-in-Null-clause-ok : goal.returns-in-Null-clause-ok
returns-in-Null-clause-ok c = subst (λ t. IsBegunValue c.args.levels (token_of t) (Begun.Scalar Field.Null)) (sym c.in-Null.is) (begun_null c.args.levels)

pub returns-in-Bool-clause-ok : goal.returns-in-Bool-clause-ok
returns-in-Bool-clause-ok c = subst (λ t. IsBegunValue c.args.levels (token_of t) (Begun.Scalar Field.Other)) (sym c.in-Bool.is) (begun_boolean c.args.levels c.in-Bool.field-0)

pub returns-in_ok-from_str-in-String-clause-ok : goal.returns-in_ok-from_str-in-String-clause-ok
returns-in_ok-from_str-in-String-clause-ok c =
    let text = c.in_ok-from_str-in-String.field-0 in
    subst (λ t. IsBegunValue c.args.levels (token_of t) (Begun.Scalar (Field.Text text))) (sym c.in-String.is) (begun_text c.args.levels c.in-String.text.now text c.in_ok-from_str-in-String.ensures.ok)

pub returns-in_ok-go_over-in-Number-clause-ok : goal.returns-in_ok-go_over-in-Number-clause-ok
returns-in_ok-go_over-in-Number-clause-ok c =
    let goes = c.in_ok-go_over-in-Number.ensures.ok (start_state c.args.levels) c.within.ensures in
    begun_numeral c.args.levels (token_of c.args.token) c.in-Number.field-0.now c.go_over.new.self (ap token_of c.in-Number.is) goes

pub returns-in-EndArray-clause-err : goal.returns-in-EndArray-clause-err
returns-in-EndArray-clause-err c not_json =
    let none : begins_none (token_of c.args.token) ≡ true = grind arith in
    no_first c.args.levels (token_of c.args.token) none
