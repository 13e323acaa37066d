-- The secret of a listener, and its token.
use Rattle.std.specs.Prelude.{ℕ, ◌-◌, ◌^◌, nat_lt, if◌then◌else◌, List, slice_get, Option, Some, None, option_and_then}
use Rattle.gate_limits.specs.declared.listeners.Listener.{Listener}

-- the secret of the listener at a place among these, if it has one
abbrev pub listener_secret : List Listener → ℕ → Option (List ℕ)
listener_secret listeners place = option_and_then (λ listener. listener.secret) (slice_get listeners place)

-- the place of the listener whose token this is: those of listeners are the 64 largest, and the first has the largest
abbrev pub listener_place : ℕ → Option ℕ
listener_place token = if nat_lt (2 ^ 64 - 65) token then Some (2 ^ 64 - 1 - token) else None
