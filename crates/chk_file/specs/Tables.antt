-- What stands under one storage index of a grid.
use Rattle.std.specs.Prelude.{ℕ, List}
use Rattle.grid.specs.Standing.{Standing}
use Rattle.file_shares.specs.Row.{ShareTable}

-- of what stands in a grid, the row of a storage index
abbrev pub table_of : Standing → List ℕ → ShareTable
table_of standing index server number = standing server (index, number)
