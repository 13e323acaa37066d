-- Rows that are written one by one behind an image's front.
use Rattle.std.specs.Prelude.{◌≡◌, ◌<◌, ◌+◌, ◌^◌, ℕ, List, ◌++◌, length, All, Option, None}
use Rattle.std.specs.List.{flat_map}
use Rattle.std.specs.Io.KnownBytes.{Appends}
use Rattle.grid.specs.Rows.{Row}
use Rattle.grid.specs.Image.{image, row_bytes, refused_field, refused_place}
use Rattle.grid.specs.declared.image_layout.Layout.TheVariants.{VersionTwo}
use Rattle.grid.specs.declared.image_writer.Progress.{Progress}

-- these rows were written, each was counted, and no field of theirs passes its range; for private clauses
pub record AreWritten (before after : Progress) (old new : Option (List ℕ)) (rows : List Row) : Type 0 where
  pub written : Appends old new (flat_map (row_bytes VersionTwo) rows)
  pub counted : after.left + length rows ≡ before.left
  pub passed : (more : List Row) → refused_field before.place (rows ++ more) ≡ refused_field after.place more
  pub sized : All (λ row. length row.1.0.0 ≡ 16) rows
  pub short : All (λ row. length row.1.1 < 2 ^ 64) rows

-- the image of some rows was written, of as many as its front says, and no field of it passes its range
abbrev pub WritesImage : ℕ → Option (List ℕ) → Option (List ℕ) → Type 0
WritesImage servers old new = (rows : List Row) × (refused_place rows ≡ None) × Appends old new (image servers rows)
