-- The paths of files.
use Rattle.std.specs.Prelude.{◌≡◌, ◌≢◌, ◌⊎◌, ℕ, ◌/◌, List, [], ◌∷◌, ◌++◌, codes, decimal, slice_index}
use Rattle.folder_shelf.specs.Names.{file_name, IsKeyInRange}

-- the number of a share's folder: the first four bits of its storage index
abbrev pub folder_number : List ℕ → ℕ
folder_number index = slice_index index 0 / 16

-- where a share's file stands: TOP/FOLDER/NAME
abbrev pub share_path : List ℕ → List ℕ → ℕ → List ℕ
share_path top index number = top ++ codes "/" ++ decimal (folder_number index) ++ codes "/" ++ file_name index number

-- the folder in which it stands: TOP/FOLDER
abbrev pub share_folder : List ℕ → List ℕ → List ℕ
share_folder top index = top ++ codes "/" ++ decimal (folder_number index)

-- where it is written: TOP/new/NAME, and behind that what is of one process alone, if several write in the folder
abbrev pub unfinished_path : List ℕ → List ℕ → ℕ → List ℕ → List ℕ
unfinished_path top index number tag = top ++ codes "/new/" ++ file_name index number ++ tag

-- A name in a folder was taken in: a share's that belongs there is put behind the shares that there were, and another adds none.
abbrev pub TakesName : ℕ → List ℕ → List (List ℕ × ℕ) → List (List ℕ × ℕ) → Type 0
TakesName folder name old new =
    ((index : List ℕ) × (number : ℕ) × (name ≡ file_name index number) × (folder_number index ≡ folder) × (new ≡ old ++ (index, number) ∷ []))
    ⊎ (((index : List ℕ) (number : ℕ) → IsKeyInRange index number → folder_number index ≡ folder → name ≢ file_name index number) × (new ≡ old))
