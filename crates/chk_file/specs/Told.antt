-- Bytes that are told of and not held.
use Rattle.std.specs.Prelude.{ℕ, List, [], ◌∷◌}
use Rattle.caps.specs.Fields.{ReadValue}

-- the bytes of the file that is told of
abbrev pub told_in : List (ReadValue × List ℕ) → List ℕ
told_in [] = []
told_in (file ∷ more) = file.1
