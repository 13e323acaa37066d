-- Bytes that are cut in two.
use Rattle.std.specs.Prelude.{◌≡◌, ◌≢◌, ℕ, List, ◌∷◌, ◌++◌, All}

-- cut at the first `byte`, which is not in the front
pub record IsCutAt (byte : ℕ) (whole front back : List ℕ) : Type 0 where
  pub parts : whole ≡ front ++ byte ∷ back
  pub before : All (λ b. b ≢ byte) front
