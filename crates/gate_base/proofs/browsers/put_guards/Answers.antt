use Rattle.std.proofs.Common.{◌∷◌, [], ◌++◌, ap, ◌∙◌}
use Rattle.std.proofs.lemmas.Result.{on_ok_weaker}
use Rattle.gate_base.proofs.browsers.put_guards.Goals as goal

pub returns : goal.returns
returns c =
    on_ok_weaker c.push-3.result
    (λ pushed. pushed
    ∙ ap (λ lines. lines ++ c.sandbox_field.result ∷ []) (c.in_ok-push-2.ensures.pushed ∙ ap (λ lines. lines ++ c.constant-2.result ∷ []) c.in_ok-push.ensures.pushed)
    ∙ (λ i. ((c.args.fields.now ++ c.constant.ensures i ∷ []) ++ c.constant-2.ensures i ∷ []) ++ c.sandbox_field.ensures i ∷ []))
    c.push-3.ensures.pushed
