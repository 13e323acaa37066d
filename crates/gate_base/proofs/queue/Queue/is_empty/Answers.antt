use Rattle.std.proofs.Common.{◌≡◌, length, arith}
use Rattle.gate_base.proofs.Queues.{is_empty_iff}
use Rattle.gate_base.proofs.queue.Queue.is_empty.Goals as goal

pub returns : goal.returns
returns c =
    let same : c.len.result ≡ length c.self.inside.bytes.items = omega (arith, c.self.inside.bytes.ok.0) in
    rw (← c.self.view_is) (is_empty_iff _ _ _ same c.self.invariant)
