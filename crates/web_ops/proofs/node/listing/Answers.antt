use Rattle.std.proofs.Common.{ap, sym, ◌∙◌}
use Rattle.std.proofs.lemmas.Result.{IfOk-weaker}
use Rattle.web_replies.specs.Replies.{json_reply}
use Rattle.web_ops.specs.Answers.{children_reply}
use Rattle.web_ops.proofs.CarriedOut.{none_of, not_met}
use Rattle.web_ops.proofs.node.listing.Goals as goal

pub returns-in-Ok : goal.returns-in-Ok
returns-in-Ok c =
    let listed = c.in-Ok.ensures.read in
    c.listing_reply.ensures ∙ ap json_reply listed.is
    ∙ ap (children_reply c.args.cap.now) (sym ((c.texts_and_entries_belong_together.ensures.children listed.entries c.args.counted).1 listed.read))

pub returns-in-Err-2 : goal.returns-in-Err-2
returns-in-Err-2 c =
    let refused = c.in-Err.ensures.refused (not_met c.is_memory.result _ c.is_memory.ensures c.if-is_memory.false) in
    IfOk-weaker c.failure_reply.result _ _ (λ reply is. is ∙ ap (children_reply c.args.cap.now) (sym (none_of _ _ c.in-Err.fault (λ entries. c.texts_and_entries_belong_together.ensures.children entries c.args.counted) refused))) c.failure_reply.ensures
