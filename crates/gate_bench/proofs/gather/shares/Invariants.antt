use Rattle.std.proofs.Common.{◌≡◌, ◌<◌, All, length, vec_len}
use Rattle.std.specs.Rc.{rc_slice_items}
use Rattle.gate_bench.proofs.gather.shares.Given as goal

abbrev pub invariant-loop-share : goal.invariant-loop-share
invariant-loop-share l = record {
  count : vec_len l.shares ≡ l._share;
  some : All (λ share. 0 < length (rc_slice_items share)) l.shares.items;
}
