use Rattle.std.proofs.Common.{sym, ◌∙◌}
use Rattle.http_edge.proofs.FrameLemmas.{closed_joined}
use Rattle.http_edge.proofs.conn.Conn.closed.Goals as goal

pub returns-clause-joined : goal.returns-clause-joined
returns-clause-joined c = λ before e. sym c.is_open.ensures.open ∙ closed_joined c.args.self.now before e
