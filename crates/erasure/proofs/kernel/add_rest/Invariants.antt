use Rattle.std.proofs.Common.{◌≡◌, ℕ, ◌*◌, ◌/◌, ◌<◌, ◌≤◌, length, get_or}
use Rattle.erasure.specs.Tables.{AreTables, IsAdded}
use Rattle.erasure.proofs.kernel.add_rest.Given as goal

abbrev pub invariant-loop-i : goal.invariant-loop-i
invariant-loop-i l = record {
  added : (c : ℕ) → AreTables c l.low l.high → IsAdded c l.src l.fn.dst l.dst (32 * (length l.src / 32)) l.i;
  whole : (i : ℕ) → i < 32 * (length l.src / 32) → get_or l.dst i 0 ≡ get_or l.fn.dst i 0;
  kept : (i : ℕ) → l.i ≤ i → get_or l.dst i 0 ≡ get_or l.fn.dst i 0;
}
