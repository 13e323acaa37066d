use Rattle.std.proofs.Common.{◌≡◌, ℕ, List, ◌*◌, ◌<◌, length, take}
use Rattle.sha2.specs.Sha256.{digest_bytes}
use Rattle.tag_hash.specs.Lanes.{together}
use Rattle.tag_hash.proofs.messages.digest_at.Given as goal

abbrev pub invariant-loop-i : goal.invariant-loop-i
invariant-loop-i g l =
    (length l.digest ≡ 32) × ((h : ℕ → List ℕ) → l.state ≡ together g.L.Words.of 8 h → l.j < g.L.Words.lanes → take (4 * l.i) l.digest ≡ digest_bytes (h l.j) l.i)
