-- What the program's arguments ask for.
use Rattle.std.specs.Prelude.{◌≡◌, ◌≢◌, ◌≤◌, ℕ, List, [], ◌∷◌, length, Some, codes}
use Rattle.std.specs.Net.Grammar.{IsSocketText}
use Rattle.octets.specs.Decimal.{number_to}
use Rattle.base32_text.specs.Reading.{reading}
use Rattle.gate_tasks.specs.Command.{spelled}
use Rattle.gate_tasks.specs.declared.arguments.Service.{Service}
use Rattle.gate_tasks.specs.declared.arguments.Task.{Task}
use Rattle.gate_tasks.specs.declared.arguments.Task.TheVariants.{Replay, Serve}
use Rattle.gate_tasks.specs.declared.fault.ProgramFault.{ProgramFault}
use Rattle.gate_tasks.specs.declared.fault.ProgramFault.TheVariants.{Usage, NoMemory}
use Rattle.gate_tasks.specs.declared.fault.UsageFault.{UsageFault}
use Rattle.gate_tasks.specs.declared.fault.UsageFault.TheVariants.{NoCommand, OtherCommand, ReplayCount, ServeCount, Address, Connections, Secret}
use Rattle.std.specs.declared.net.socket_addr.SocketAddr.{SocketAddr}

-- the most connections that are served, and the most bytes of a secret
abbrev pub most_connections : ℕ
most_connections = 65535

abbrev pub most_secret : ℕ
most_secret = 256

-- ADDR, CONNS and SECRET ask for this service
pub record AsksService (address count secret : List ℕ) (service : Service) : Type 0 where
  pub address_text : IsSocketText address service.address
  pub connections_text : number_to most_connections count ≡ Some service.connections
  pub some_connections : 1 ≤ service.connections
  pub secret_text : spelled (reading secret) ≡ Some service.secret
  pub secret_fits : length service.secret ≤ most_secret

-- ADDR CONNS [SECRET], where the secret is empty if it is absent
abbrev pub AsksToServe : List (List ℕ) → Service → Type 0
AsksToServe (address ∷ count ∷ []) service = AsksService address count [] service
AsksToServe (address ∷ count ∷ secret ∷ []) service = AsksService address count secret service
AsksToServe _ service = ⊥

-- `replay`, or `serve` and its arguments
abbrev pub Asks : List (List ℕ) → Task → Type 0
Asks [] task = ⊥
Asks (verb ∷ arguments) Replay = (verb ≡ codes "replay") × (arguments ≡ [])
Asks (verb ∷ arguments) (Serve service) = (verb ≡ codes "serve") × AsksToServe arguments service

-- a text is an address, or a number of connections, or spells a secret
abbrev pub IsAddress : List ℕ → Type 0
IsAddress text = (address : SocketAddr) × IsSocketText text address

abbrev pub IsCount : List ℕ → Type 0
IsCount text = (n : ℕ) × (1 ≤ n) × (number_to most_connections text ≡ Some n)

abbrev pub IsSecret : List ℕ → Type 0
IsSecret text = (bytes : List ℕ) × (spelled (reading text) ≡ Some bytes) × (length bytes ≤ most_secret)

-- the first of ADDR, CONNS and SECRET that is wrong
abbrev pub IsWrongService : List ℕ → List ℕ → List ℕ → UsageFault → Type 0
IsWrongService address count secret Address = ¬ (IsAddress address)
IsWrongService address count secret Connections = IsAddress address × ¬ (IsCount count)
IsWrongService address count secret Secret = IsAddress address × IsCount count × ¬ (IsSecret secret)
IsWrongService address count secret _ = ⊥

-- what is wrong behind `serve`
abbrev pub IsWrongToServe : List (List ℕ) → UsageFault → Type 0
IsWrongToServe (address ∷ count ∷ []) fault = IsWrongService address count [] fault
IsWrongToServe (address ∷ count ∷ secret ∷ []) fault = IsWrongService address count secret fault
IsWrongToServe _ fault = fault ≡ ServeCount

-- What is wrong, from left to right. Words that were read are texts.
abbrev pub IsWrong : List (List ℕ) → UsageFault → Type 0
IsWrong [] fault = fault ≡ NoCommand
IsWrong (verb ∷ arguments) NoCommand = ⊥
IsWrong (verb ∷ arguments) OtherCommand = (verb ≢ codes "replay") × (verb ≢ codes "serve")
IsWrong (verb ∷ arguments) ReplayCount = (verb ≡ codes "replay") × (arguments ≢ [])
IsWrong (verb ∷ arguments) fault = (verb ≡ codes "serve") × IsWrongToServe arguments fault

-- why words are refused: so wrong are they, or there was no memory to read them
abbrev pub IsRefusedFor : (UsageFault → Type 0) → ProgramFault → Type 0
IsRefusedFor Wrong (Usage fault) = Wrong fault
IsRefusedFor Wrong fault = fault ≡ NoMemory

abbrev pub IsRefused : List (List ℕ) → ProgramFault → Type 0
IsRefused words fault = IsRefusedFor (IsWrong words) fault
