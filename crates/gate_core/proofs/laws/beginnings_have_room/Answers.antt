use Rattle.gate_core.proofs.Entries.{IsRoomy-first}
use Rattle.gate_core.proofs.laws.beginnings_have_room.Goals as goal

pub returns : goal.returns
returns c = IsRoomy-first
