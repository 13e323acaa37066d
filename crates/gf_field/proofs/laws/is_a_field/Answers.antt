use Rattle.gf_field.proofs.Field.{mul_of-lt, mul_of-comm, mul_of-assoc, mul_of-xor_right, mul_of-one_left}
use Rattle.gf_field.proofs.Powers.{mul_of-inverse, inverse_lt}
use Rattle.gf_field.proofs.laws.is_a_field.Goals as goal

pub returns : goal.returns
returns c = record {
  closed = mul_of-lt;
  commutative = mul_of-comm;
  associative = mul_of-assoc;
  distributive = mul_of-xor_right;
  one = mul_of-one_left;
  inverse = mul_of-inverse;
  inverse_closed = inverse_lt;
}
