-- How a share is put.
use Rattle.std.specs.Prelude.{◌≡◌, ◌⊎◌, ℕ, List, Bool, true, false, Option, Some}
use Rattle.redis_store.specs.Commands.{get_command, put_command, set_command}
use Rattle.redis_store.specs.Exchanges.{Talk}
use Rattle.redis_store.specs.Told.{IsSaidBy, IsSetBy, IsShareGivenBy, IsRefusedBy}
use Rattle.redis_store.specs.declared.connection.Greeting.{Greeting}

-- Something stood under the name, and then this share was given of it, or none.
pub record IsGivenThen (is_open : Bool) (first : Greeting) (old new : Talk) (longest : ℕ) (name content : List ℕ) (share : Option (List ℕ)) : Type 0 where
  pub between : Talk
  pub stood : IsSaidBy is_open first old between (put_command name content) false
  pub given : IsShareGivenBy true first between new longest (get_command name) share

-- It was another, or none, and the bytes were put in its stead.
pub record IsReplaced (is_open : Bool) (first : Greeting) (old new : Talk) (longest : ℕ) (name content : List ℕ) : Type 0 where
  pub share : Option (List ℕ)
  pub between : Talk
  pub looked : IsGivenThen is_open first old between longest name content share
  pub other : share ≡ Some content → ⊥
  pub put : IsSetBy true first between new name content

-- Where a share was put nothing stood under its name, or it was replaced; else its own bytes were found there.
abbrev pub IsPutBy : Bool → Greeting → Talk → Talk → ℕ → List ℕ → List ℕ → Bool → Type 0
IsPutBy is_open first old new longest name content true = IsSaidBy is_open first old new (put_command name content) true
    ⊎ IsReplaced is_open first old new longest name content
IsPutBy is_open first old new longest name content false = IsGivenThen is_open first old new longest name content (Some content)

-- An error reply of this kind came as the bytes were to be put, where nothing stood or in another's stead.
abbrev pub IsPutRefusedBy : Bool → Greeting → Talk → Talk → List ℕ → List ℕ → List ℕ → Type 0
IsPutRefusedBy is_open first old new name content kind = IsRefusedBy is_open first old new (put_command name content) kind
    ⊎ ((between : Talk) × IsRefusedBy true first between new (set_command name content) kind)
