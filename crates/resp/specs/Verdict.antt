-- What is said of the bytes that came so far.
use Rattle.std.specs.Prelude.{◌<◌, ◌≤◌, ◌+◌, ℕ, List, take, length, Option, Some, None, Result, Ok, Err}
use Rattle.resp.specs.declared.fault.RespFault.{RespFault}
use Rattle.resp.specs.declared.fault.RespFault.TheVariants as faults
use Rattle.resp.specs.Spelled.{IsBegun}

-- the bytes before the place are a beginning of something spelled; with the byte there they begin nothing, and spell nothing
pub record IsWrongAt {A : Type 0} (Spells : A → List ℕ → Type 0) (bytes : List ℕ) (place : ℕ) : Type 0 where
  pub within : place < length bytes
  pub begun : IsBegun Spells (take place bytes)
  pub not_begun : IsBegun Spells (take (place + 1) bytes) → ⊥
  pub not_whole : (a : A) → Spells a (take (place + 1) bytes) → ⊥

-- a value and how many bytes it takes, `None` for a beginning, or where they are wrong
abbrev pub IsReadAs : {A : Type 0} → (A → List ℕ → Type 0) → List ℕ → Result (Option (A × ℕ)) RespFault → Type 0
IsReadAs Spells bytes (Ok (Some (a, len))) = (len ≤ length bytes) × Spells a (take len bytes)
IsReadAs Spells bytes (Ok None) = IsBegun Spells bytes
IsReadAs Spells bytes (Err (faults.Wrong wrong place)) = IsWrongAt Spells bytes place
IsReadAs Spells bytes (Err faults.NoMemory) = Unit {0}
