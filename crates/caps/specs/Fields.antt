-- What the caps of stored bytes hold.
use Rattle.std.specs.Prelude.{ℕ, List}

-- the fields of a read cap
pub record ReadValue : Type 0 where
  pub key : List ℕ
  pub ueb : List ℕ
  pub k : ℕ
  pub n : ℕ
  pub size : ℕ

-- the fields of a verify cap: the storage index in place of the key
pub record VerifyValue : Type 0 where
  pub si : List ℕ
  pub ueb : List ℕ
  pub k : ℕ
  pub n : ℕ
  pub size : ℕ
