use Rattle.std.proofs.Common.{◌≡◌, ℕ, ◌*◌, ◌≤◌, get_or}
use Rattle.erasure.specs.Tables.{AreTables, IsAdded}
use Rattle.erasure.proofs.kernel.add_whole.Given as goal

abbrev pub invariant-loop-n : goal.invariant-loop-n
invariant-loop-n l = record {
  added : (c : ℕ) → AreTables c l.low l.high → IsAdded c l.src l.fn.dst l.dst 0 (32 * l.n);
  rest : (i : ℕ) → 32 * l.n ≤ i → get_or l.dst i 0 ≡ get_or l.fn.dst i 0;
}
