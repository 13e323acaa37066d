use Rattle.std.proofs.Common.{◌≡◌, ℕ, List, ◌∷◌, ◌++◌, take, string_bytes}
use Rattle.std.specs.List.{flat_map}
use Rattle.client_tasks.proofs.disk.place_of.Given as goal

-- the names so far, each behind a `/`
abbrev pub invariant-loop-name : goal.invariant-loop-name
invariant-loop-name l = string_bytes l.place ≡ l.top ++ flat_map (λ (name : List ℕ). 47 ∷ name) (take l.name-index l.path)
