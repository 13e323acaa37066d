-- Rows as they are gathered; for private clauses.
use Rattle.std.specs.Prelude.{ℕ}
use Rattle.share_store.specs.Stored.{entry_of}
use Rattle.share_store.specs.declared.share.Share.{Share}
use Rattle.grid.specs.Rows.{Row}

-- a server's share as a row
abbrev pub row_of : ℕ × Share → Row
row_of found = (found.0, entry_of found.1)
