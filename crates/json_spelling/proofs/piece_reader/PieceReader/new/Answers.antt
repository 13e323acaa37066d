use Rattle.std.proofs.Common.{refl, arith}
use Rattle.json_spelling.proofs.PiecesTaken.{none_taken}
use Rattle.json_spelling.proofs.piece_reader.PieceReader.new.Goals as goal

pub returns-clause-begun : goal.returns-clause-begun
returns-clause-begun g c taken text = none_taken g.T.TakesTokens.took text _ refl (c.new.ensures.searched text (omega arith)) taken
