-- How a store in a folder that others serve too is opened.
use Rattle.std.specs.Prelude.{◌≡◌, ℕ, List}
use Rattle.folder_shelf.specs.declared.settings.StoreSettings.{StoreSettings}

-- Its shares stand in this folder, and as many are made of a file as the settings say.
pub record IsSharedAs (folder : List ℕ) (settings : StoreSettings) (top : List ℕ) (made : ℕ) : Type 0 where
  pub there : top ≡ folder
  pub shares : made ≡ settings.made
