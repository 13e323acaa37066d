use Rattle.json_members.proofs.Turns.{in_turn}
use Rattle.json_members.proofs.laws.objects_are_joined_in_turn.Goals as goal

pub returns : goal.returns
returns c = in_turn
