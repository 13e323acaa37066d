use Rattle.std.proofs.Common.{◌≡◌, ℕ, ◌+◌, ◌<◌, [], get_or, length}
use Rattle.aes_ctr.specs.KeyExpansion.{round_key, x_power}
use Rattle.aes_ctr.proofs.schedule.expanded.Given as goal

abbrev pub invariant-loop-n : goal.invariant-loop-n
invariant-loop-n l = record {
  long : length l.keys ≡ 11;
  power_is : l.power ≡ x_power l.n;
  last_is : l.last ≡ round_key l.fn.key l.n;
  made : (k : ℕ) → k < l.n + 1 → get_or l.keys k [] ≡ round_key l.fn.key k;
}
