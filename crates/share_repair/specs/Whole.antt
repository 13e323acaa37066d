-- Files whose shares are where they are to be.
use Rattle.std.specs.Prelude.{◌≡◌, ◌⊎◌, ℕ, ◌<◌, ◌^◌, List, Some, length}
use Rattle.octets.specs.Sharing.{IsSharing}
use Rattle.grid.specs.GridState.{GridState, stood}
use Rattle.grid.specs.Placement.{server_of}
use Rattle.share_repair.specs.Files.{FileLabel, IsShareOf}
use Rattle.share_repair.specs.declared.judging.Judged.{Judged}
use Rattle.share_repair.specs.declared.mending.Outcome.{Outcome}
use Rattle.share_repair.specs.declared.mending.Outcome.TheVariants.{Whole, Repaired}

-- a good share of each number of one file stands in its place
pub record IsWholeFile (index : List ℕ) (grid : GridState) : Type 0 where
  pub label : FileLabel
  pub sharing : IsSharing label.params.k label.params.n
  pub size : label.params.size < 2 ^ 64
  pub each : (number : ℕ) → number < label.params.n → (s : List ℕ) × (stood grid (server_of (length grid.stores) index number) (index, number) ≡ Some s) × IsShareOf label number s

-- it was found so, or was left so
abbrev pub IsMended : Outcome → Type 0
IsMended outcome = (outcome ≡ Whole) ⊎ ((put : ℕ) × (outcome ≡ Repaired put))

-- it is told to be a good share of that file of this number, and stands at this server; for private clauses
abbrev pub IsAtServer : FileLabel → ℕ → ℕ → Judged → Type 0
IsAtServer label server number judged = (judged.server ≡ server) × (judged.number ≡ number) × (judged.label ≡ Some label)
