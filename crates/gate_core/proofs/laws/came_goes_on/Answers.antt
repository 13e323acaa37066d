use Rattle.gate_core.proofs.Steps.{Came-open, Came-take, Came-end, Came-bytes, Came-lost, Came-spoiled, Came-unchanged}
use Rattle.gate_core.proofs.laws.came_goes_on.Goals as goal

pub returns : goal.returns
returns c = record {
  opened = Came-open c.left_over.ensures.left_first;
  taken = Came-take;
  ended = Came-end;
  received = Came-bytes c.pieces_join.ensures.items c.pieces_join.ensures.left;
  lost = Came-lost c.marks_follow_the_grid.ensures.lost;
  spoiled = Came-spoiled c.marks_follow_the_grid.ensures.spoiled;
  unchanged = Came-unchanged;
  isolated = λ opening g events came. record {
    apart = c.isolation.ensures.apart opening g events came;
    verified = c.verified_isolation.ensures.apart opening g events came;
  };
}
