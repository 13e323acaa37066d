use Rattle.json_seams.proofs.Turns.{in_turn}
use Rattle.json_seams.proofs.laws.parts_are_joined_in_turn.Goals as goal

pub returns : goal.returns
returns c = in_turn
