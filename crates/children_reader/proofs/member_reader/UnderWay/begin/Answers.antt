use Rattle.std.proofs.Common.{arith}
use Rattle.json.specs.Reads.{token_of}
use Rattle.json_stack.specs.Machine.{start_state}
use Rattle.children_reader.specs.declared.member_reader.UnderWay.{UnderWay}
use Rattle.children_reader.proofs.ValuesUnderWay.{begun_open}
use Rattle.children_reader.proofs.member_reader.UnderWay.begin.Goals as goal

pub returns-in_err-go_over-clause-err : goal.returns-in_err-go_over-clause-err
returns-in_err-go_over-clause-err c not_json = c.go_over.ensures.err (grind arith) (start_state c.args.levels) c.within-speller.ensures

pub returns-clause-ok : goal.returns-clause-ok
returns-clause-ok c =
    let way : UnderWay = record { object = c.opens_object.result; speller = c.go_over.new.self } in
    begun_open c.args.levels (token_of c.args.token) way c.requires.opens c.opens_object.ensures (c.in_ok-go_over.ensures.ok (start_state c.args.levels) c.within-speller.ensures)
