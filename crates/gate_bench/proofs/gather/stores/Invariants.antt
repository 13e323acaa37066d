use Rattle.std.proofs.Common.{◌≡◌, vec_len}
use Rattle.gate_bench.proofs.gather.stores.Given as goal

abbrev pub invariant-loop-server : goal.invariant-loop-server
invariant-loop-server l = vec_len l.stores ≡ l._server
