-- How many blocks a code has.
use Rattle.std.specs.Prelude.{ℕ}

-- any k of the n blocks give the k primary ones
pub record CodeSize : Type 0 where
  pub k : ℕ
  pub n : ℕ
