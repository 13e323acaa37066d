-- What is told of a settings file that is refused.
use Rattle.std.specs.Prelude.{◌≡◌, ◌≢◌, ℕ, List, Option, Some, None, MatchBool}
use Rattle.folder_shelf.specs.SettingsText.{settings_text}
use Rattle.folder_shelf.specs.Refusals.{RefusesSettings}
use Rattle.folder_shelf.specs.declared.settings.StoreSettings.{StoreSettings}
use Rattle.folder_shelf.specs.declared.fault.FolderFault.TheVariants as folder
use Rattle.server_stores.specs.declared.difference.OtherNumber.{OtherNumber}
use Rattle.server_stores.specs.declared.difference.Difference.{Difference}
use Rattle.server_stores.specs.declared.fault.ProgramFault.{ProgramFault}
use Rattle.server_stores.specs.declared.fault.ProgramFault.TheVariants.{OtherGrid, Folder, NoMemory}

-- a number is told exactly where another one is wanted, and both are told as they are
abbrev pub IsTold : Option OtherNumber → ℕ → ℕ → Type 0
IsTold None there wanted = there ≡ wanted
IsTold (Some other) there wanted = (other.there ≡ there) × (other.wanted ≡ wanted) × (there ≢ wanted)

-- each number by itself, and of the secret only whether it is another one
pub record IsDifference (there wanted : StoreSettings) (difference : Difference) : Type 0 where
  pub place : IsTold difference.place there.place wanted.place
  pub servers : IsTold difference.servers there.servers wanted.servers
  pub needed : IsTold difference.needed there.needed wanted.needed
  pub made : IsTold difference.made there.made wanted.made
  pub secret : MatchBool difference.secret (there.secret ≢ wanted.secret) (there.secret ≡ wanted.secret)

-- the text is that of settings that differ so
pub record DiffersBy (difference : Difference) (text : List ℕ) (wanted : StoreSettings) : Type 0 where
  pub there : StoreSettings
  pub written : text ≡ settings_text there
  pub differs : IsDifference there wanted difference

-- what each refusal says of the text of a settings file, where other settings are wanted
abbrev pub Tells : ProgramFault → List ℕ → StoreSettings → Type 0
Tells (OtherGrid difference) text wanted = RefusesSettings folder.OtherGrid text wanted × DiffersBy difference text wanted
Tells (Folder fault) text wanted = RefusesSettings fault text wanted
Tells NoMemory text wanted = Unit {0}
Tells _ text wanted = ⊥
