use Rattle.json_seams.proofs.Found.{places}
use Rattle.json_seams.proofs.laws.cuts_are_found_in_parts.Goals as goal

pub returns-clause-places : goal.returns-clause-places
returns-clause-places c = places
