use Rattle.http_edge.proofs.FrameLemmas.{few_items}
use Rattle.http_edge.proofs.HeadFirst.{body_first, chunks_first, limit_first}
use Rattle.http_edge.proofs.laws.body_comes_next.Goals as goal

pub returns : goal.returns
returns c = record { items = body_first; short = few_items; chunks = chunks_first; too_long = limit_first }
