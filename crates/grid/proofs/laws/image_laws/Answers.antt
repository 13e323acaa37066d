use Rattle.grid.proofs.RowFacts.{maps_by_rows}
use Rattle.grid.proofs.ReadExact.{read_exactly}
use Rattle.grid.proofs.ReadBack.{read_back}
use Rattle.grid.proofs.laws.image_laws.Goals as goal

pub returns : goal.returns
returns c = record { read_back = read_back; exact = read_exactly; told_by_rows = maps_by_rows }
