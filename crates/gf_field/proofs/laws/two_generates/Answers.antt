use Rattle.gf_field.proofs.Powers.{two_returns, two_returns_late, two_generates, power_pos, power_lt, powers_apart}
use Rattle.gf_field.proofs.laws.two_generates.Goals as goal

pub returns : goal.returns
returns c = record {
  returns = two_returns;
  no_earlier = two_returns_late;
  elements = λ i. (power_pos i, power_lt 2 i);
  once = powers_apart;
  each = two_generates;
}
