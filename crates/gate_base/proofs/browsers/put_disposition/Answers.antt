use Rattle.std.proofs.Common.{◌∷◌, [], ◌++◌, ap, sym, ◌∙◌}
use Rattle.std.proofs.lemmas.Result.{on_ok_weaker}
use Rattle.gate_base.specs.Browsers.{disposition_lines}
use Rattle.gate_base.proofs.browsers.put_disposition.Goals as goal

pub returns-in-Some : goal.returns-in-Some
returns-in-Some c =
    on_ok_weaker c.push.result
    (λ pushed. pushed ∙ ap (λ line. c.args.fields.now ++ line ∷ []) c.made.ensures ∙ ap (λ value. c.args.fields.now ++ disposition_lines value) (sym c.in-Some.is))
    c.push.ensures.pushed
