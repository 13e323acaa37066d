use Rattle.std.proofs.Common.{refl, arith}
use Rattle.json.specs.Reads.{token_of}
use Rattle.children_reader.specs.declared.member_reader.UnderWay.{UnderWay}
use Rattle.children_reader.proofs.ValuesUnderWay.{gone_on, refused_on}
use Rattle.children_reader.proofs.member_reader.UnderWay.go_over.Goals as goal

pub returns-in_err-go_over-clause-err : goal.returns-in_err-go_over-clause-err
returns-in_err-go_over-clause-err c not_json = refused_on (token_of c.args.token) c.args.self (c.go_over.ensures.err (grind arith))

pub returns-clause-ok : goal.returns-clause-ok
returns-clause-ok c =
    let new : UnderWay = record { object = c.args.self.object; speller = c.go_over.new.self } in
    λ levels s. gone_on (token_of c.args.token) c.args.self new refl c.in_ok-go_over.ensures.ok levels s
