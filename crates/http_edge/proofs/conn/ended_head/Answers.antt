use Rattle.std.proofs.Common.{ℕ, List, ap, ◌∙◌}
use Rattle.http_edge.specs.FramingState.{frame_from}
use Rattle.http_edge.specs.State.{left_of}
use Rattle.http_edge.proofs.LineLemmas.{waiting_settled}
use Rattle.http_edge.proofs.NoHead.{first_request, no_request}
use Rattle.http_edge.proofs.conn.ended_head.Goals as goal

pub returns-in-Head : goal.returns-in-Head
returns-in-Head c =
    no_request _ (ap first_request (ap (λ (bytes : List ℕ). frame_from (left_of c.args.state) bytes) (c.requires.read _ (ap left_of c.in-Head.is))
    ∙ (waiting_settled (left_of c.args.state) c.requires.waits).none))

pub returns-in-Body : goal.returns-in-Body
returns-in-Body c = rw c.in-Body.is c.head_of_body.ensures

pub returns-in-Chunks : goal.returns-in-Chunks
returns-in-Chunks c = rw c.in-Chunks.is c.head_of_chunks.ensures
