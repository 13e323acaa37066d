use Rattle.std.proofs.Common.{◌≡◌, ◌≢◌, Ok, Err, sym, ap, ◌∙◌}
use Rattle.std.specs.Option.{option_copied}
use Rattle.std.proofs.lemmas.Result.{err_from_is_err_and, IfOk-weaker, IfErr-weaker}
use Rattle.web_request.specs.declared.fault.WebFault.TheVariants.{NoMemory}
use Rattle.web_request.specs.Targets.{origin_of, query_text, resource_of, below_uri}
use Rattle.web_request.specs.Queries.{query_of}
use Rattle.web_request.specs.Actions.{action_of}
use Rattle.web_request.specs.Requests.{request_for, interpreted}
use Rattle.web_request.proofs.RequestLemmas.{no_target, no_resource, action_taken}
use Rattle.web_request.proofs.interpreter.interpret.Goals as goal

pub returns-in_default-clause-err : goal.returns-in_default-clause-err
returns-in_default-clause-err c = λ _. no_target c.args.head.now c.args.body (
    ap origin_of (sym c.as_slice.ensures) ∙ sym c.origin_of.ensures ∙ ap option_copied c.in_default.is
    )

pub returns-in_default-resource_of-clause-err : goal.returns-in_default-resource_of-clause-err
returns-in_default-resource_of-clause-err c = λ _. no_resource c.args.head.now c.args.body c.in-Some.origin.now
    (ap origin_of (sym c.as_slice.ensures) ∙ sym c.origin_of.ensures ∙ ap option_copied c.in-Some.is)
    (ap resource_of (sym c.cut_at_question.ensures.path) ∙ sym c.resource_of.ensures ∙ c.in_default-resource_of.is)

pub returns-in_err-action-clause-err : goal.returns-in_err-action-clause-err
returns-in_err-action-clause-err c =
    let p = err_from_is_err_and c.from_residual.result c.from_residual.ensures.1 in
    let resource = c.in-Some-resource_of.resource in
    rw (p.1, p.2) (λ other. action_taken c.args.head.now c.args.body c.in-Some.origin.now resource (Err _)
    (ap origin_of (sym c.as_slice.ensures) ∙ sym c.origin_of.ensures ∙ ap option_copied c.in-Some.is)
    (ap resource_of (sym c.cut_at_question.ensures.path) ∙ sym c.resource_of.ensures ∙ c.in-Some-resource_of.is)
    (ap (λ m. action_of resource m (query_of (query_text c.in-Some.origin.now))) (sym c.as_slice-2.ensures)
    ∙ ap (λ q. action_of resource c.as_slice-2.result.now (query_of q)) (sym c.cut_at_question.ensures.query)
    ∙ c.in_err-action.ensures.err other))

same : (c : goal.After-request_for) → interpreted c.args.head.now c.args.body ≡ request_for c.in_ok-action.action c.below_uri.result.now c.as_slice-3.result.now c.args.body
same c =
    let head = c.args.head.now in
    let body = c.args.body in
    let origin = c.in-Some.origin.now in
    let resource = c.in-Some-resource_of.resource in
    action_taken head body origin resource (Ok c.in_ok-action.action)
    (ap origin_of (sym c.as_slice.ensures) ∙ sym c.origin_of.ensures ∙ ap option_copied c.in-Some.is)
    (ap resource_of (sym c.cut_at_question.ensures.path) ∙ sym c.resource_of.ensures ∙ c.in-Some-resource_of.is)
    (ap (λ m. action_of resource m (query_of (query_text origin))) (sym c.as_slice-2.ensures)
    ∙ ap (λ q. action_of resource c.as_slice-2.result.now (query_of q)) (sym c.cut_at_question.ensures.query)
    ∙ c.in_ok-action.ensures.ok)
    ∙ ap (λ p. request_for c.in_ok-action.action p head.fields body) (ap below_uri (sym c.cut_at_question.ensures.path) ∙ sym c.below_uri.ensures)
    ∙ ap (λ f. request_for c.in_ok-action.action c.below_uri.result.now f body) (sym c.as_slice-3.ensures)

pub returns-clause-ok : goal.returns-clause-ok
returns-clause-ok c =
    let said = request_for c.in_ok-action.action c.below_uri.result.now c.as_slice-3.result.now c.args.body in
    IfOk-weaker _ (λ request. said ≡ Ok request) (λ request. interpreted c.args.head.now c.args.body ≡ Ok request) (λ request h. same c ∙ h) c.request_for.ensures.ok

pub returns-clause-err : goal.returns-clause-err
returns-clause-err c =
    let said = request_for c.in_ok-action.action c.below_uri.result.now c.as_slice-3.result.now c.args.body in
    IfErr-weaker _ (λ fault. fault ≢ NoMemory → said ≡ Err fault) (λ fault. fault ≢ NoMemory → interpreted c.args.head.now c.args.body ≡ Err fault) (λ fault h other. same c ∙ h other) c.request_for.ensures.err
