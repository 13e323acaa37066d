use Rattle.grid.proofs.FoundAll.{same_found, is_found, found_of_number, first_found}
use Rattle.grid.proofs.laws.found_laws.Goals as goal

pub returns : goal.returns
returns c = record { determined = same_found; complete = is_found; of_number = found_of_number; first = first_found }
