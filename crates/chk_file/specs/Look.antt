-- What the answers to callers look at: the bytes that a read cap gives, and what stands under a storage index.
use Rattle.std.specs.Prelude.{ℕ, List, Option}
use Rattle.grid.specs.Standing.{Standing}
use Rattle.caps.specs.Fields.{ReadValue}
use Rattle.caps.specs.StorageIndex.{index_of}
use Rattle.file_shares.specs.Row.{ShareTable}
use Rattle.chk_file.specs.Tables.{table_of}
use Rattle.file_shares.specs.Fit.{fit}
use Rattle.chk_file.specs.Marks.{shown}
use Rattle.chk_file.specs.World.{World}
use Rattle.chk_file.specs.Held.{uploaded_bytes}

pub record Look : Type 0 where
  pub gives : ReadValue → Option (List ℕ)
  pub stood : List ℕ → ShareTable

-- what verification finds in what stands
abbrev pub look_in : Standing → Look
look_in standing = record { gives = λ (f : ReadValue). fit (table_of standing (index_of f.key)) f; stood = table_of standing }

-- what verification finds in a world, and what is held there
abbrev pub by_fit : World → Look
by_fit w = look_in (shown w.marks)

abbrev pub by_held : World → Look
by_held w = record { gives = uploaded_bytes w; stood = table_of (shown w.marks) }
