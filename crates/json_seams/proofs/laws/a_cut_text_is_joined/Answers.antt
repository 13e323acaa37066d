use Rattle.json_seams.proofs.Joined.{joined}
use Rattle.json_seams.proofs.laws.a_cut_text_is_joined.Goals as goal

pub returns : goal.returns
returns c = joined
