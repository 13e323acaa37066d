use Rattle.caps.specs.Kinds.{is_verify_cap}
use Rattle.web_ops.proofs.OneLook.{answered_one, one_answered}
use Rattle.web_ops.proofs.laws.like_looks_answer_as_one.Goals as goal

pub returns : goal.returns
returns c gives cap names json range reply =
    (answered_one gives (is_verify_cap cap) cap names json range reply, one_answered gives (is_verify_cap cap) cap names json range reply)
