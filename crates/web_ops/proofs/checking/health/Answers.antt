use Rattle.std.proofs.Common.{Ok, sym, ap, ◌∙◌}
use Rattle.std.specs.Prelude.{⊤}
use Rattle.caps.specs.Weakening.{weakened}
use Rattle.caps.specs.declared.cap.VerifyCap.{VerifyCap}
use Rattle.web_ops.specs.Answers.{health_text}
use Rattle.web_replies.specs.Replies.{json_reply}
use Rattle.web_ops.proofs.Found.{checked}
use Rattle.web_ops.proofs.Amid.{failed_amid, checked_amid, literal_amid}
use Rattle.web_ops.proofs.checking.health.Goals as goal

pub returns-clause-found : goal.returns-clause-found
returns-clause-found g c =
    checked ⊤ c.args.mapped (weakened c.args.cap.now) c.in-Some.verify_cap c.args.verify c.in_ok-health.health (Ok c.json_reply-2.result) c.args.grid.now c.check.new.grid
    (sym c.weaken.ensures ∙ c.in-Some.is) (c.json_reply-2.ensures ∙ ap json_reply c.in_ok-text.ensures ∙ ap (λ (v : VerifyCap). json_reply (health_text c.args.mapped v.fields.si c.in_ok-health.health)) c.verify_cap.view_is) c.check.ensures.leaves c.check.ensures.unchanged c.in_ok-health.ensures.numbers c.in_ok-health.ensures.health

pub returns-clause-amid : goal.returns-clause-amid
returns-clause-amid g c =
    checked_amid c.args.mapped c.args.verify (weakened c.args.cap.now) c.in-Some.verify_cap c.in_ok-health.health (Ok c.json_reply-2.result) c.args.cache.now c.check.new.cache c.args.grid.now c.check.new.grid
    (sym c.weaken.ensures ∙ c.in-Some.is) (c.json_reply-2.ensures ∙ ap json_reply c.in_ok-text.ensures ∙ ap (λ (v : VerifyCap). json_reply (health_text c.args.mapped v.fields.si c.in_ok-health.health)) c.verify_cap.view_is)
    c.check.ensures.told c.check.ensures.stand_still c.check.ensures.cached c.in_ok-health.ensures.seen

pub returns-in_default-clause-amid : goal.returns-in_default-clause-amid
returns-in_default-clause-amid g c =
    literal_amid c.args.mapped c.args.verify (weakened c.args.cap.now) (Ok c.json_reply.result) c.args.cache.now c.args.grid.now
    (sym c.weaken.ensures ∙ c.in_default.is) (c.json_reply.ensures ∙ ap json_reply c.in_ok-literal_check_json.ensures)

pub returns-in_err-literal_check_json-clause-amid : goal.returns-in_err-literal_check_json-clause-amid
returns-in_err-literal_check_json-clause-amid g c = failed_amid _ _ c.from_residual.result c.args.cache.now c.args.grid.now c.from_residual.ensures.1
