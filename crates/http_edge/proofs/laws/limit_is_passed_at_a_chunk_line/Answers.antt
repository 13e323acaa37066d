use Rattle.http_edge.proofs.LimitLemmas.{passing_is_refused, refused_passes}
use Rattle.http_edge.proofs.laws.limit_is_passed_at_a_chunk_line.Goals as goal

pub returns : goal.returns
returns c = record { each = passing_is_refused; only = refused_passes }
