-- How a store on a Redis server is opened.
use Rattle.std.specs.Prelude.{◌≡◌, ℕ, List, Option}
use Rattle.folder_shelf.specs.declared.settings.StoreSettings.{StoreSettings}
use Rattle.redis_store.specs.declared.connection.Greeting.{Greeting}
use Rattle.redis_store.specs.declared.fault.ServerFault.{ServerFault}
use Rattle.redis_store.specs.declared.fault.ServerFault.TheVariants as server
use Rattle.redis_store.specs.GridText.{grid_name}
use Rattle.server_stores.specs.Prefix.{prefix}
use Rattle.server_stores.specs.declared.fault.ProgramFault.{ProgramFault}
use Rattle.server_stores.specs.declared.fault.ProgramFault.TheVariants.{Redis, NoMemory}

-- Its shares stand under NAME, up to 67,108,864 bytes each, and each connection of it says this password, where there is
-- one, and asks whether the server is of these settings.
pub record IsOpenedAs (name : List ℕ) (settings : StoreSettings) (password : Option (List ℕ)) (grid : List ℕ) (longest : ℕ) (first : Greeting) : Type 0 where
  pub names : grid ≡ prefix name
  pub limit : longest ≡ 67_108_864
  pub told : first.password ≡ password
  pub wanted : first.settings ≡ settings
  pub text : first.name ≡ grid_name (prefix name)

-- A server is down: it can't be reached, or it takes no questions yet.
abbrev pub IsDown : ServerFault → Type 0
IsDown server.Link = Unit {0}
IsDown server.Closed = Unit {0}
IsDown server.Late = Unit {0}
IsDown server.NotOpened = Unit {0}
IsDown server.Resting = Unit {0}
IsDown _ = ⊥

-- what is told of a server that is refused
abbrev pub IsToldAs : ServerFault → ProgramFault → Type 0
IsToldAs server.NoMemory told = told ≡ NoMemory
IsToldAs fault told = told ≡ Redis fault
