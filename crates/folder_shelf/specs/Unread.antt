-- A file that gave no share.
use Rattle.std.specs.Prelude.{◌≡◌, ◌≢◌, ◌⊎◌, ◌<◌, ℕ, List, length, Option, Some}
use Rattle.folder_shelf.specs.Sealed.{sealed}
use Rattle.folder_shelf.specs.Steps.{Steps, with_file_step}
use Rattle.folder_shelf.specs.Steps as step

-- what was read is no share's text: it isn't bytes, one or more, with their seal behind them
abbrev pub IsRotten : Option (List ℕ) → Type 0
IsRotten text = (bytes : List ℕ) → 0 < length bytes → text ≢ Some (sealed bytes)

-- the file of this path was asked for, and could not be read or was rotten
abbrev pub IsUnread : List ℕ → Steps → Steps → Type 0
IsUnread path old new =
    (new ≡ with_file_step old (step.unread path))
    ⊎ ((text : Option (List ℕ)) × IsRotten text × (new ≡ with_file_step old (step.read path text)))
