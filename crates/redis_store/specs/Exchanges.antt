-- The exchanges over a connection: what was told, and what came.
use Rattle.std.specs.Prelude.{◌≡◌, ℕ, List, [], ◌∷◌, ◌++◌, Option, Some, None}
use Rattle.resp.specs.declared.limits.Limits.{Limits}
use Rattle.resp.specs.declared.reply.Reply.{Reply}
use Rattle.resp.specs.Spelled.{SpellsReply}
use Rattle.redis_store.specs.Commands.{auth_command}
use Rattle.redis_store.specs.Replies.{IsOkReply}

-- what was told, and what came until something was told again
abbrev pub Exchange : Type 0
Exchange = List ℕ × List ℕ

-- the exchanges over the connection at hand, the last one first, and those over each connection that was let go, the
-- last one first, where they are known
abbrev pub Talk : Type 0
Talk = Option (List Exchange × List (List Exchange))

-- a new connection was made
abbrev pub with_connection : Talk → Talk
with_connection None = None
with_connection (Some (all, before)) = Some ([], all ∷ before)

-- these bytes were told, which begins an exchange
abbrev pub with_command : Talk → List ℕ → Talk
with_command None bytes = None
with_command (Some (all, before)) bytes = Some ((bytes, []) ∷ all, before)

-- These bytes came, in the exchange that was begun last. What comes before anything was told is in none.
abbrev pub with_heard : Talk → List ℕ → Talk
with_heard None bytes = None
with_heard (Some ([], before)) bytes = Some ([], before)
with_heard (Some (last ∷ all, before)) bytes = Some ((last.0, last.1 ++ bytes) ∷ all, before)

-- one exchange more, where these bytes were told and those came
abbrev pub with_exchange : Talk → List ℕ → List ℕ → Talk
with_exchange None told came = None
with_exchange (Some (all, before)) told came = Some ((told, came) ∷ all, before)

-- A beginning of these commands was told, and nothing came to it.
pub record IsToldInPart (old : Talk) (commands : List ℕ) (new : Talk) : Type 0 where
  pub told : List ℕ
  pub rest : List ℕ
  pub begins : commands ≡ told ++ rest
  pub last : new ≡ with_command old told

-- how large a reply without a share may be
abbrev pub short_limits : Limits
short_limits = record { line = 512; bulk = 512; elements = 16 }

-- how large the reply that has a share may be
abbrev pub value_limits : ℕ → Limits
value_limits longest = record { line = 512; bulk = longest; elements = 0 }

-- One new connection was made, and nothing was told but the password where there is one, and it was taken.
abbrev pub IsGreeted : Option (List ℕ) → Talk → Talk → Type 0
IsGreeted None old new = new ≡ with_connection old
IsGreeted (Some password) old new = (reply : Reply) × (came : List ℕ) × IsOkReply reply × SpellsReply short_limits reply came
    × (new ≡ with_exchange (with_connection old) (auth_command password) came)
