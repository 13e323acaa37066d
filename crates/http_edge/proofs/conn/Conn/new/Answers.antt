use Rattle.std.proofs.Common.{sym, ap, ◌∙◌}
use Rattle.http_edge.specs.FramingState.{part_of}
use Rattle.http_edge.proofs.FrameLemmas.{rest-nil}
use Rattle.http_edge.proofs.conn.Conn.new.Goals as goal

pub returns-clause-joined : goal.returns-clause-joined
returns-clause-joined c = ap part_of c.new.ensures.items ∙ sym rest-nil
