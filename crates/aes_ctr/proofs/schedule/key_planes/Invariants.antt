use Rattle.std.proofs.Common.{◌≡◌, ℕ, ◌<◌, List, [], get_or, length}
use Rattle.aes_ctr.specs.KeyExpansion.{round_key, AreRoundKeys}
use Rattle.aes_ctr.specs.Planes.{planes}
use Rattle.aes_ctr.proofs.schedule.key_planes.Given as goal

abbrev pub invariant-loop-n : goal.invariant-loop-n
invariant-loop-n l = record {
  long : length l.planes ≡ 11;
  made : (key : List ℕ) → AreRoundKeys key l.keys → (k : ℕ) → k < l.n
      → get_or l.planes k [] ≡ planes (λ j. round_key key k);
}
