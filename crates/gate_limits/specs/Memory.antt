-- Who goes on where the memory for connections is used up.
use Rattle.std.specs.Prelude.{◌≡◌, ℕ, ◌<◌, ◌⊎◌, Bool, not, nat_eq, if◌then◌else◌, List, [], ◌∷◌, ◌++◌, filter, Some, None}
use Rattle.std.specs.List.{list_any}
use Rattle.gate_limits.specs.declared.memory.Memory.{Memory}

-- A connection may go on of which so many bytes are kept, or would be if its request were carried out: they are few, there is
-- room, or it is the one that goes on without room, which it becomes where nobody is.
abbrev pub MayGoOn : Memory → ℕ → ℕ → Type 0
MayGoOn memory id kept = (kept < 16384) ⊎ ((memory.kept < memory.most) ⊎ ((memory.first ≡ None) ⊎ (memory.first ≡ Some id)))

-- One that waits may be called: there is room, or nobody goes on without it.
abbrev pub MayBeCalled : Memory → Type 0
MayBeCalled memory = (memory.kept < memory.most) ⊎ (memory.first ≡ None)

-- whether an id is one of those that wait
abbrev pub is_queued : ℕ → List ℕ → Bool
is_queued id waiting = list_any (λ other. nat_eq other id) waiting

-- those that wait with this one: it is the last, or stands where it stood
abbrev pub queued : ℕ → List ℕ → List ℕ
queued id waiting = if is_queued id waiting then waiting else waiting ++ id ∷ []

-- those that wait without this one, in the order in which they were
abbrev pub unqueued : ℕ → List ℕ → List ℕ
unqueued id waiting = filter (λ other. not (nat_eq other id)) waiting
