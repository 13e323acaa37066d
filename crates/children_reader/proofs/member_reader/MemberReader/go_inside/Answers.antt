use Rattle.std.proofs.Common.{Some, None, sym, ◌∙◌, subst, arith}
use Rattle.json.specs.Reads.{token_of}
use Rattle.json_stack.specs.Machine.{reading, next_state}
use Rattle.children_reader.specs.MemberReader.{NoneAfter, IsStage, Fits, IsOn}
use Rattle.children_reader.proofs.MemberStages.{inside, is_open, value_refused, still_open, value_read}
use Rattle.children_reader.proofs.member_reader.MemberReader.go_inside.Goals as goal

pub returns-in_err-go_over-clause-err : goal.returns-in_err-go_over-clause-err
returns-in_err-go_over-clause-err c not_json =
    let es = c.args.self.now.outcomes.items in
    let stage = c.args.self.now.stage in
    let value = c.args.value in
    let t = token_of c.args.token in
    inside es stage value (λ s. NoneAfter (next_state s t))
    (λ room frames at. value_refused es stage value t room frames at (c.go_over.ensures.err (grind arith) at.levels (reading room at.inner) (is_open es stage value t room frames at)))

pub returns-in_err-self-in-Ok-clause-err : goal.returns-in_err-self-in-Ok-clause-err
returns-in_err-self-in-Ok-clause-err c not_json =
    let es = c.args.self.now.outcomes.items in
    let stage = c.args.self.now.stage in
    let value = c.args.value in
    let next = c.in_ok-go_over.field-0 in
    let t = token_of c.args.token in
    inside es stage value (λ s. NoneAfter (next_state s t))
    (λ room frames at.
    (let come = c.in-Ok.ensures at.levels (next_state (reading room at.inner) t) (c.in_ok-go_over.ensures.ok at.levels (reading room at.inner) (is_open es stage value t room frames at)) in
    let read = value_read es stage value t room frames at next c.in-Ok.field c.in_ok-go_over.ensures.kind come in
    absurd (subst (λ st. Fits st read.1 → ⊥) c.replace-stage.ensures.value (c.stage_after.ensures.err (grind arith) read.1) read.5)))

pub returns-in-Err-clause-ok : goal.returns-in-Err-clause-ok
returns-in-Err-clause-ok c =
    let es = c.args.self.now.outcomes.items in
    let stage = c.args.self.now.stage in
    let value = c.args.value in
    let left = c.in-Err.value in
    let t = token_of c.args.token in
    inside es stage value (λ s. IsOn (next_state s t) es stage (Some left))
    (λ room frames at.
    (let open_now = c.in-Err.ensures at.levels (next_state (reading room at.inner) t) (c.in_ok-go_over.ensures.ok at.levels (reading room at.inner) (is_open es stage value t room frames at)) in
    still_open es stage value t room frames at left (open_now.1 ∙ c.in_ok-go_over.ensures.kind) open_now.0))

pub returns-in_ok-self-in-Ok-clause-ok : goal.returns-in_ok-self-in-Ok-clause-ok
returns-in_ok-self-in-Ok-clause-ok c =
    let es = c.args.self.now.outcomes.items in
    let stage = c.args.self.now.stage in
    let value = c.args.value in
    let next = c.in_ok-go_over.field-0 in
    let t = token_of c.args.token in
    let made = c.in_ok-self-in-Ok.field-0 in
    inside es stage value (λ s. IsOn (next_state s t) c.stage_after.new.outcomes.items made c.args.self.now.value)
    (λ room frames at.
    (let come = c.in-Ok.ensures at.levels (next_state (reading room at.inner) t) (c.in_ok-go_over.ensures.ok at.levels (reading room at.inner) (is_open es stage value t room frames at)) in
    let read = value_read es stage value t room frames at next c.in-Ok.field c.in_ok-go_over.ensures.kind come in
    let was = subst (λ st. IsStage st es at.levels at.outer) (sym c.replace-stage.ensures.value) at.around in
    let fits = subst (λ st. Fits st read.1) (sym c.replace-stage.ensures.value) read.5 in
    let after = c.in_ok-self-in-Ok.ensures.ok at.levels at.outer read.0 read.1 was read.3 read.4 fits in
    let out = c.stage_after.new.outcomes.items in
    subst (IsOn (next_state (reading room frames) t) out made) (sym c.requires.taken) (subst (λ s. IsOn s out made None) (sym read.2) after)))
