use Rattle.std.proofs.Common.{arith}
use Rattle.json.specs.Reads.{token_of}
use Rattle.json_stack.specs.Machine.{next_state, state_within}
use Rattle.children_reader.specs.MemberReader.{NoneAfter}
use Rattle.children_reader.specs.declared.member_reader.Stage.{Stage}
use Rattle.children_reader.proofs.Nested.{failed_on}
use Rattle.children_reader.proofs.MemberStages.{outside, nothing_behind}
use Rattle.children_reader.proofs.member_reader.go_outside.Goals as goal

pub returns-in_err-go_in_members-in-Members-clause-err : goal.returns-in_err-go_in_members-in-Members-clause-err
returns-in_err-go_in_members-in-Members-clause-err c not_json =
    let es = c.args.outcomes.now.items in
    let t = token_of c.args.token in
    rw c.in-Members.is
    (outside es Stage.Members (λ is. let never : ⊥ = cc in never) (λ s. NoneAfter (next_state s t))
    (λ room frames at. failed_on (state_within room frames t) (c.go_in_members.ensures.err (grind arith) es room frames at)))

pub returns-in_err-go_in_fields-in-Fields-clause-err : goal.returns-in_err-go_in_fields-in-Fields-clause-err
returns-in_err-go_in_fields-in-Fields-clause-err c not_json =
    let es = c.args.outcomes.now.items in
    let t = token_of c.args.token in
    rw c.in-Fields.is
    (outside es (Stage.Fields c.in-Fields.key c.in-Fields.fields) (λ is. let never : ⊥ = cc in never) (λ s. NoneAfter (next_state s t))
    (λ room frames at. failed_on (state_within room frames t) (c.go_in_fields.ensures.err (grind arith) es room frames at)))

pub returns-in-Ended-clause-err : goal.returns-in-Ended-clause-err
returns-in-Ended-clause-err c not_json = rw c.in-Ended.is (nothing_behind c.args.outcomes.now.items (token_of c.args.token))
