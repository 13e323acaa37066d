use Rattle.std.proofs.Common.{◌≡◌, ◌-◌, ◌<◌, ℕ, List, get_or}
use Rattle.aes_ctr.specs.Cipher.{after_rounds}
use Rattle.aes_ctr.specs.Planes.{planes, AreByteStates, AreKeyPlanes}
use Rattle.aes_ctr.proofs.rounds.encrypted.Given as goal

abbrev pub invariant-loop-n : goal.invariant-loop-n
invariant-loop-n l =
    (key : List ℕ) (s : ℕ → List ℕ) → ((i : ℕ) → get_or key i 0 < 256) → AreByteStates s → AreKeyPlanes key l.keys → l.fn.blocks ≡ planes s
    → l.x ≡ planes (λ j. after_rounds key (s j) (l.n - 1))
