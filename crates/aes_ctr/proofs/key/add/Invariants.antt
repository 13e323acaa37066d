use Rattle.std.proofs.Common.{◌≡◌, ℕ, ◌<◌, ◌≤◌, get_or, bit_xor}
use Rattle.aes_ctr.proofs.key.add.Given as goal

abbrev pub invariant-loop-i : goal.invariant-loop-i
invariant-loop-i l = record {
  added : (k : ℕ) → k < l.i → get_or l.bytes k 0 ≡ bit_xor (get_or l.initial.bytes k 0) (get_or l.stream k 0);
  rest : (k : ℕ) → l.i ≤ k → get_or l.bytes k 0 ≡ get_or l.initial.bytes k 0;
}
