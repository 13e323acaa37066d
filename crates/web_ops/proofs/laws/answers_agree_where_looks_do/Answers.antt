use Rattle.web_ops.proofs.Looks.{same_reply, same_met}
use Rattle.web_ops.proofs.laws.answers_agree_where_looks_do.Goals as goal

pub returns-clause-reply : goal.returns-clause-reply
returns-clause-reply c e look other request same =
    same_reply c.walks_agree_where_looks_do.ensures.walks c.walks_agree_where_looks_do.ensures.met c.walks_meet_their_ends.ensures.end e look other request same

pub returns-clause-met : goal.returns-clause-met
returns-clause-met c look other request same =
    same_met c.walks_agree_where_looks_do.ensures.walks c.walks_agree_where_looks_do.ensures.met c.walks_meet_their_ends.ensures.end look other request same
