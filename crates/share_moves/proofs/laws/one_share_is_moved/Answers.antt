use Rattle.share_moves.proofs.Wholes.{one_first}
use Rattle.share_moves.proofs.laws.one_share_is_moved.Goals as goal

pub returns : goal.returns
returns c = record { one = one_first }
