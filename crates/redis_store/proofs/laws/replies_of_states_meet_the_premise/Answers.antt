use Rattle.redis_store.proofs.EngineMet.{premise_met}
use Rattle.redis_store.proofs.laws.replies_of_states_meet_the_premise.Goals as goal

pub returns : goal.returns
returns c = premise_met c.one_reply.ensures c.commands_are_replies.ensures
