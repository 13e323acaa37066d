-- Why a server is none that was wanted.
use Rattle.std.specs.Prelude.{◌≡◌, ◌≢◌, ℕ, List}
use Rattle.folder_shelf.specs.SettingsText.{AreSettings}
use Rattle.folder_shelf.specs.declared.settings.StoreSettings.{StoreSettings}
use Rattle.redis_store.specs.GridText.{grid_text}
use Rattle.redis_store.specs.declared.fault.ServerFault.{ServerFault}
use Rattle.redis_store.specs.declared.fault.ServerFault.TheVariants.{SettingsRotten, OtherGrid, OtherSecret, OtherPlace, NoMemory}

-- as many servers, and as many shares needed and made
abbrev pub HasNumbersOf : StoreSettings → StoreSettings → Type 0
HasNumbersOf found settings = (found.servers ≡ settings.servers) × (found.needed ≡ settings.needed) × (found.made ≡ settings.made)

-- what each fault says of the text that stands on a server, where other settings are wanted
abbrev pub IsStrange : ServerFault → List ℕ → StoreSettings → Type 0
IsStrange SettingsRotten text settings = (found : StoreSettings) → AreSettings found → text ≢ grid_text found
IsStrange OtherGrid text settings = (found : StoreSettings) × (text ≡ grid_text found) × (HasNumbersOf found settings → ⊥)
IsStrange OtherSecret text settings = (found : StoreSettings) × (text ≡ grid_text found) × HasNumbersOf found settings × (found.secret ≢ settings.secret)
IsStrange (OtherPlace place) text settings = (text ≡ grid_text (record settings { place = place })) × (place ≢ settings.place)
IsStrange NoMemory text settings = Unit {0}
IsStrange _ text settings = ⊥
