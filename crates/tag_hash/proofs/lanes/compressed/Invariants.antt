use Rattle.std.proofs.Common.{◌≡◌, ℕ, ◌*◌, ◌-◌, List}
use Rattle.tag_hash.specs.Lanes.{together, variables_at, words_from}
use Rattle.tag_hash.proofs.lanes.compressed.Given as goal

abbrev pub invariant-loop-turn : goal.invariant-loop-turn
invariant-loop-turn g l = record {
  scheduled : (b : ℕ → List ℕ) → l.fn.words ≡ words_from g.L.Words.of b 0 → l.w ≡ words_from g.L.Words.of b (8 * l.turn - 16);
  rounded : (b h : ℕ → List ℕ) → l.fn.words ≡ words_from g.L.Words.of b 0 → l.state ≡ together g.L.Words.of 8 h → l.v ≡ variables_at g.L.Words.of b h (8 * l.turn);
}
