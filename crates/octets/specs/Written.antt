-- What a writer holds after a write that may have stopped.
use Rattle.std.specs.Prelude.{◌≡◌, ℕ, List, ◌++◌, Option}
use Rattle.std.specs.Io.KnownBytes.{Appends}

-- a beginning of these bytes was written
pub record WritesBeginning (bytes : List ℕ) (old new : Option (List ℕ)) : Type 0 where
  pub beginning : List ℕ
  pub rest : List ℕ
  pub begins : bytes ≡ beginning ++ rest
  pub written : Appends old new beginning
