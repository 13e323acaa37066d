use Rattle.http_edge.proofs.FrameLemmas.{requests_read}
use Rattle.http_edge.proofs.laws.requests_are_read.Goals as goal

pub returns : goal.returns
returns c = requests_read
