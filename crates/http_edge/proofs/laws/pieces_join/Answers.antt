use Rattle.http_edge.proofs.FrameLemmas.{frame-append, rest-append, frame_from-append, rest_from-append}
use Rattle.http_edge.proofs.laws.pieces_join.Goals as goal

pub returns : goal.returns
returns c = record { items = frame-append; left = rest-append; items_from = frame_from-append; left_from = rest_from-append }
