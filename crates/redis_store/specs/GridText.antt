-- The text that says whose a server is.
use Rattle.std.specs.Prelude.{ℕ, List, ◌++◌, codes}
use Rattle.folder_shelf.specs.SettingsText.{settings_text_as}
use Rattle.folder_shelf.specs.declared.settings.StoreSettings.{StoreSettings}

-- that of a folder's settings file, under a name of its own
unfoldable pub grid_text : StoreSettings → List ℕ
grid_text s = settings_text_as (codes "wozhinnam redis1") s

-- what is put behind a grid's id to have the name under which the text stands
abbrev pub grid_name : List ℕ → List ℕ
grid_name grid = grid ++ codes "grid"
