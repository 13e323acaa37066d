-- What was told ahead.
use Rattle.std.specs.Prelude.{◌≡◌, ℕ, List, [], ◌∷◌, Option, None, Some}
use Rattle.redis_store.specs.declared.connection.Awaited.{Awaited}
use Rattle.redis_store.specs.Exchanges.{Talk, with_command}

-- the replies to so many commands are awaited
abbrev pub ahead : List ℕ → ℕ → Option Awaited
ahead commands count = Some (record { commands = commands; count = count })

-- the talk before the last exchange
abbrev pub before_last : Talk → Talk
before_last None = None
before_last (Some ([], before)) = Some ([], before)
before_last (Some (last ∷ all, before)) = Some (all, before)

-- These commands were told last, and nothing came since.
abbrev pub IsToldLast : Talk → List ℕ → Type 0
IsToldLast talk commands = talk ≡ with_command (before_last talk) commands
