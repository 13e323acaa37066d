-- Parts of bytes as the code holds them; for private clauses.
use Rattle.std.specs.Prelude.{ℕ, List}
use Rattle.std.specs.Borrow.{Bor}
use Rattle.dir_codec.specs.Parts.{EntryTexts}
use Rattle.dir_codec.specs.declared.parts.Parts.{Parts}

abbrev pub both_now : Bor (List ℕ) × Bor (List ℕ) → List ℕ × List ℕ
both_now two = (two.0.now, two.1.now)

abbrev pub texts_now : Parts → EntryTexts
texts_now parts = record { name = parts.name.now; cap = parts.cap.now; write = parts.write.now; metadata = parts.metadata.now }

abbrev pub entry_now : Parts × Bor (List ℕ) → EntryTexts × List ℕ
entry_now found = (texts_now found.0, found.1.now)
