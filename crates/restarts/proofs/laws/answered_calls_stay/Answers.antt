use Rattle.restarts.proofs.Calls.{later, between}
use Rattle.restarts.proofs.laws.answered_calls_stay.Goals as goal

pub returns-clause-later : goal.returns-clause-later
returns-clause-later g c = later g.H.Shelf.moment g.H.Shelf.left_since g.H.Shelf.honest

pub returns-clause-between : goal.returns-clause-between
returns-clause-between g c = between g.H.Shelf.moment g.H.Shelf.left_since g.H.Shelf.honest
