-- What stands in a file of one line.
use Rattle.std.specs.Prelude.{ℕ, ◌-◌, nat_eq, if◌then◌else◌, List, length, take, codes}
use Rattle.std.specs.List.{ends_with}

-- but for a line feed at the end
abbrev pub without_line_feed : List ℕ → List ℕ
without_line_feed bytes = if ends_with nat_eq bytes (codes "\n") then take (length bytes - 1) bytes else bytes
