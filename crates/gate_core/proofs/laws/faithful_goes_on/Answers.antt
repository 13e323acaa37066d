use Rattle.std.proofs.Common.{refl}
use Rattle.gate_core.specs.Events.{Lose, Spoil}
use Rattle.gate_core.proofs.Telling.{Faithful-begins, Faithful-open, Faithful-bytes, Faithful-cut, Faithful-take, Faithful-end, Faithful-operator, Faithful-grid}
use Rattle.gate_core.proofs.laws.faithful_goes_on.Goals as goal

pub returns : goal.returns
returns c = record {
  begins = Faithful-begins;
  opened = Faithful-open c.left_over.ensures.items_first c.left_over.ensures.left_first;
  received = Faithful-bytes c.pieces_join.ensures.items c.pieces_join.ensures.left;
  cut = Faithful-cut;
  taken = Faithful-take;
  ended = Faithful-end;
  lost = λ g events server key grid told. Faithful-operator g events grid (Lose server key) refl told;
  spoiled = λ g events server key place grid told. Faithful-operator g events grid (Spoil server key place) refl told;
  unchanged = Faithful-grid;
}
