-- What a folder's file system was asked for an answer, and nothing else.
use Rattle.std.specs.Prelude.{◌≡◌, ◌<◌, ℕ, zero, suc, Bool, true, false, List, [], ◌∷◌, ◌++◌, length, Option, Some, None, if◌then◌else◌}
use Rattle.folder_shelf.specs.Paths.{share_path, share_folder, unfinished_path}
use Rattle.folder_shelf.specs.Sealed.{sealed}
use Rattle.folder_shelf.specs.Steps.{Steps, with_file_step}
use Rattle.folder_shelf.specs.Steps as step
use Rattle.folder_shelf.specs.Unread.{IsUnread}

-- a file gave the bytes of a share, which had their seal, or it gave no share
abbrev pub IsFileRead : List ℕ → Option (List ℕ) → Steps → Steps → Type 0
IsFileRead path (Some bytes) old new = new ≡ with_file_step old (step.read path (Some (sealed bytes)))
IsFileRead path None old new = IsUnread path old new

-- a file was said to stand, or not to
abbrev pub IsFileFound : List ℕ → Bool → Steps → Steps → Type 0
IsFileFound path found old new = new ≡ with_file_step old (step.found path found)

-- this number is behind the others, if that is said
abbrev pub with_number : List ℕ → ℕ → Bool → List ℕ
with_number numbers number found = if found then numbers ++ number ∷ [] else numbers

-- of each number below a limit, in their order, it was asked whether its share's file stands: these are those of which it does
abbrev pub AreFilesFound : List ℕ → List ℕ → ℕ → List ℕ → Steps → Steps → Type 0
AreFilesFound top index zero numbers old new = (numbers ≡ []) × (new ≡ old)
AreFilesFound top index (suc number) numbers old new =
    (before : List ℕ) × (between : Steps) × (found : Bool) × AreFilesFound top index number before old between
    × IsFileFound (share_path top index number) found between new × (numbers ≡ with_number before number found)

-- A put was answered. `true`: the share's file was asked for and gave no share, and then one was written with these bytes and
-- their seal, first under a name of this process alone. `false`: the file gave a share, whose folder was then synced.
abbrev pub IsFilePut : List ℕ → List ℕ → ℕ → List ℕ → List ℕ → Bool → Steps → Steps → Type 0
IsFilePut top index number tag bytes true old new =
    (between : Steps) × IsUnread (share_path top index number) old between
    × (new ≡ with_file_step between (step.wrote (unfinished_path top index number tag) (share_path top index number) (sealed bytes)))
IsFilePut top index number tag bytes false old new =
    (kept : List ℕ) × (between : Steps) × (0 < length kept) × IsFileRead (share_path top index number) (Some kept) old between
    × (new ≡ with_file_step between (step.synced (share_folder top index)))

-- a file was said to stand, or not to, and was taken away
abbrev pub IsFileRemoved : List ℕ → Bool → Steps → Steps → Type 0
IsFileRemoved path lost old new = (between : Steps) × IsFileFound path lost old between × (new ≡ with_file_step between (step.removed path))
