use Rattle.http_edge.proofs.FrameLemmas.{frame-nil, rest-nil, closed_where, items_settled, left_settled, left_short, body_left_short}
use Rattle.http_edge.proofs.laws.left_over.Goals as goal

pub returns : goal.returns
returns c = record {
  items_first = frame-nil;
  left_first = rest-nil;
  ended = closed_where;
  items_settled = items_settled;
  left_settled = left_settled;
  short_head = left_short;
  short_body = body_left_short;
}
