use Rattle.std.proofs.Common.{ℕ, List, [], get_or, refl, ap}
use Rattle.aes_ctr.specs.Rounds.{shift_rows}
use Rattle.aes_ctr.specs.Planes.{byte_in, sliced}
use Rattle.aes_ctr.proofs.planes.shifted.Goals as goal

pub returns : goal.returns
unfolding shift_rows
returns c = λ s ex.
    let at : ℕ → List (List ℕ) → List ℕ = λ k l. get_or l k [] in
    let f : ℕ → ℕ → ℕ = λ k i. sliced (byte_in s i) k in
    rw (
      c.turned.ensures (f 0) (ap (at 0) ex),
      c.turned-2.ensures (f 1) (ap (at 1) ex),
      c.turned-3.ensures (f 2) (ap (at 2) ex),
      c.turned-4.ensures (f 3) (ap (at 3) ex),
      c.turned-5.ensures (f 4) (ap (at 4) ex),
      c.turned-6.ensures (f 5) (ap (at 5) ex),
      c.turned-7.ensures (f 6) (ap (at 6) ex),
      c.turned-8.ensures (f 7) (ap (at 7) ex),
    ) refl
