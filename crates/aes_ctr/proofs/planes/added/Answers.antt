use Rattle.std.proofs.Common.{ℕ, [], ◌∷◌}
use Rattle.aes_ctr.specs.Rounds.{add_round_key}
use Rattle.aes_ctr.specs.Planes.{byte_in, plane_vectors}
use Rattle.aes_ctr.proofs.BitLemmas.{sliced_xor}
use Rattle.aes_ctr.proofs.planes.added.Goals as goal

pub returns : goal.returns
unfolding add_round_key
returns c = λ s t ex ey.
    let sum : (k b : ℕ) → _ = λ k b. sliced_xor (byte_in s k) (byte_in t k) b in
    rw (ex, ey) (λ i. plane_vectors 8 (λ k. sum k 0 i ∷ sum k 1 i ∷ sum k 2 i ∷ sum k 3 i ∷ sum k 4 i ∷ sum k 5 i ∷ sum k 6 i ∷ sum k 7 i ∷ []))
