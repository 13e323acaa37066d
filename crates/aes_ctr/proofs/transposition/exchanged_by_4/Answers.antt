use Rattle.std.proofs.Common.{ℕ, List, [], get_or, refl, ap}
use Rattle.aes_ctr.proofs.transposition.exchanged_by_4.Goals as goal

pub returns : goal.returns
returns c = λ m low e.
    let held : (k : ℕ) → _ = λ k. ap (λ (v : List (List ℕ)). get_or v k []) e in
    let first = c.exchanged-a.ensures (λ i. m i 0) (λ i. m i 4) (λ i. low i 0) (λ i. low i 4) (held 0) (held 4) in
    let second = c.exchanged-b.ensures (λ i. m i 1) (λ i. m i 5) (λ i. low i 1) (λ i. low i 5) (held 1) (held 5) in
    let third = c.exchanged-c.ensures (λ i. m i 2) (λ i. m i 6) (λ i. low i 2) (λ i. low i 6) (held 2) (held 6) in
    let fourth = c.exchanged-d.ensures (λ i. m i 3) (λ i. m i 7) (λ i. low i 3) (λ i. low i 7) (held 3) (held 7) in
    rw (first, second, third, fourth) refl
