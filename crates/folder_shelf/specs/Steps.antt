-- What was asked of a file system.
use Rattle.std.specs.Prelude.{ℕ, Bool, List, ◌∷◌, Option, Some, None}

-- A file, first written by one path, has these bytes at another; a file is gone; a file had these bytes or was none; one
-- could not be read; a file stood or none did; a folder had these names; and its names are there for good.
pub data FileStep : Type 0 where
  wrote : List ℕ → List ℕ → List ℕ → FileStep
  removed : List ℕ → FileStep
  read : List ℕ → Option (List ℕ) → FileStep
  unread : List ℕ → FileStep
  found : List ℕ → Bool → FileStep
  named : List ℕ → List (List ℕ) → FileStep
  synced : List ℕ → FileStep

-- one after the other, the last one first, where they are known
abbrev pub Steps : Type 0
Steps = Option (List FileStep)

-- and one more
abbrev pub with_file_step : Steps → FileStep → Steps
with_file_step None step = None
with_file_step (Some steps) step = Some (step ∷ steps)
