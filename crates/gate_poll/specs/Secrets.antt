-- By which listener a connection came, and the secret under which it was opened.
use Rattle.std.specs.Prelude.{◌≡◌, ℕ, ◌<◌, List, length, Option, unwrap_or, IsSomeAnd}
use Rattle.gate_flow.specs.Hosted.{Opened}
use Rattle.gate_limits.specs.declared.listeners.Listener.{Listener}
use Rattle.gate_limits.specs.Listeners.{listener_secret}

-- A connection came by a listener, at a place that is said, and was opened under its secret, or under this one where that
-- has none of its own.
pub record IsUnder (came : ℕ → ℕ → Type 0) (secret_at : ℕ → Option (List ℕ)) (otherwise : List ℕ) (opened : Opened) : Type 0 where
  pub place : ℕ
  pub by : came opened.0 place
  pub secret : opened.1 ≡ unwrap_or (secret_at place) otherwise

-- the same of those at which is listened, if that is so
abbrev pub IsUnderSome : {A : Type 0} → (A → ℕ → ℕ → Type 0) → (A → ℕ → Option (List ℕ)) → Option A → List ℕ → Opened → Type 0
IsUnderSome came secret_at arrivals otherwise opened = IsSomeAnd arrivals (λ a. IsUnder (came a) (secret_at a) otherwise opened)

-- a connection was opened under the secret of one of these listeners
abbrev pub IsUnderOneOf : List Listener → List ℕ → Opened → Type 0
IsUnderOneOf listeners otherwise opened = IsUnder (λ id place. place < length listeners) (listener_secret listeners) otherwise opened

-- the connection of an id was opened under a secret
abbrev pub IsOpenedUnder : ℕ → List ℕ → Opened → Type 0
IsOpenedUnder id secret opened = (opened.0 ≡ id) × (opened.1 ≡ secret)
