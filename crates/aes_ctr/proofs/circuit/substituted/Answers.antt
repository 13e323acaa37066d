use Rattle.std.proofs.Common.{ℕ, ◌+◌, ◌*◌, ◌/◌, ◌%◌, List, ◌∙◌}
use Rattle.aes_ctr.specs.Circuit.{circuit, input_sums, inverse_of_norm, norm, products}
use Rattle.aes_ctr.specs.Planes.{byte_in, slices, plane_vectors}
use Rattle.aes_ctr.specs.Rounds.{sub_bytes}
use Rattle.aes_ctr.proofs.CircuitLemmas.{circuit_of_slices}
use Rattle.aes_ctr.proofs.circuit.substituted.Goals as goal

pub returns : goal.returns
unfolding circuit sub_bytes
returns c = λ s low ex.
    let x : ℕ → List ℕ = λ k. slices (byte_in s k) in
    let y : ℕ → List ℕ = λ k. input_sums (x k) in
    let t : ℕ → List ℕ = λ k. inverse_of_norm (norm (y k)) in
    let ey = c.input_sums-y.ensures x ex in
    let et = c.inverse_of_norm-t.ensures (λ k. norm (y k)) (c.norm.ensures y ey) in
    c.output_sums.ensures (λ k. products (y k) (t k)) (c.products.ensures y t ey et)
    ∙ (λ i. plane_vectors 8 (λ k. circuit_of_slices (byte_in s k) (λ j. low (j + 8 * (k / 16)) (k % 16)) i))
