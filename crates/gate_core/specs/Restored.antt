-- Why an image is not restored. The stores that it was read into are gone with the refusal: this says that there were such.
use Rattle.std.specs.Prelude.{◌<◌, ℕ, List, Option, IfSome}
use Rattle.grid.specs.GridState.{GridState, maps_of, room_at, failures_at, IsHonest}
use Rattle.grid.specs.Leaves.{Leaves, TakesRoom}
use Rattle.grid.specs.Rows.{rows_of}
use Rattle.grid.specs.ImageReading.{image_said}
use Rattle.grid.specs.ImageSteps.{RefusesRow}

-- These stores came to hold the first rows of an image for so many servers, and the next row was longer than the room that
-- this server had left.
pub record IsFilledAt (before : GridState) (servers : ℕ) (bytes : Option (List ℕ)) (server : ℕ) : Type 0 where
  pub after : GridState
  pub leaves : Leaves before after
  pub rooms : IsHonest before → TakesRoom before after
  pub full : IfSome bytes (λ image. RefusesRow (image_said servers image).rows server (room_at after server) (IsHonest before) (rows_of (maps_of after)))

-- This server's count of failures rose while the image was read.
pub record HasFailedAt (before : GridState) (server : ℕ) : Type 0 where
  pub after : GridState
  pub leaves : Leaves before after
  pub rose : failures_at before server < failures_at after server
