use Rattle.round_trips.proofs.Standing.{stands_now, stands_first}
use Rattle.round_trips.proofs.laws.puts_stand.Goals as goal

pub returns : goal.returns
returns c = record {
  put = λ settings u w set is long sound unspoiled. stands_now c.uploads_bind_their_bytes.ensures c.what_is_bound_was_uploaded.ensures settings u w set is sound unspoiled long;
  first = stands_first;
}
