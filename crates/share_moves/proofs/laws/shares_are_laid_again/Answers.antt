use Rattle.share_moves.proofs.Wholes.{fresh, with_some, cut_off, partly}
use Rattle.share_moves.proofs.laws.shares_are_laid_again.Goals as goal

pub returns : goal.returns
returns c = record { fresh = fresh; some = with_some; cut_off = cut_off; partly = partly }
