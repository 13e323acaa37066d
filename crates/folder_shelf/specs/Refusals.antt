-- Why a settings file is refused.
use Rattle.std.specs.Prelude.{◌≡◌, ◌≢◌, ℕ, List}
use Rattle.folder_shelf.specs.SettingsText.{settings_text, AreSettings}
use Rattle.folder_shelf.specs.declared.settings.StoreSettings.{StoreSettings}
use Rattle.folder_shelf.specs.declared.fault.FolderFault.{FolderFault}
use Rattle.folder_shelf.specs.declared.fault.FolderFault.TheVariants.{SettingsRotten, OtherPlace, OtherGrid, NoMemory}

-- the text is that of a grid with other numbers or another secret
pub record IsOfOtherGrid (text : List ℕ) (settings : StoreSettings) : Type 0 where
  pub found : StoreSettings
  pub written : text ≡ settings_text found
  pub differs : record found { place = settings.place } ≢ settings

-- what each refusal says of the text of a settings file, where other settings are wanted
abbrev pub RefusesSettings : FolderFault → List ℕ → StoreSettings → Type 0
RefusesSettings SettingsRotten text settings = (found : StoreSettings) → AreSettings found
    → text ≢ settings_text found
RefusesSettings (OtherPlace place) text settings =
    (text ≡ settings_text (record settings { place = place })) × (place ≢ settings.place)
RefusesSettings OtherGrid text settings = IsOfOtherGrid text settings
RefusesSettings NoMemory text settings = Unit {0}
RefusesSettings _ text settings = ⊥
