use Rattle.std.proofs.Common.{◌≡◌, ℕ, ◌*◌, ◌/◌, ◌%◌, ◌<◌, List, get_or, length}
use Rattle.aes_ctr.specs.Planes.{each_block}
use Rattle.aes_ctr.proofs.keystream.joined.Given as goal

abbrev pub invariant-loop-j : goal.invariant-loop-j
invariant-loop-j l = record {
  long : length l.bytes ≡ 256;
  written : (s : ℕ → List ℕ) → l.blocks ≡ each_block s → (i : ℕ) → i < 256 → i % 128 < 16 * l.j
      → get_or l.bytes i 0 ≡ get_or (s (i / 16)) (i % 16) 0;
}
