-- For how many seconds a gateway may be slow.
use Rattle.std.specs.Prelude.{◌≡◌, ◌≤◌, ℕ, List, Option, Some, None}
use Rattle.octets.specs.Decimal.{number_to}

-- as many as the text says, from 1 to 3,600, and without one 120
abbrev pub IsPatience : Option (List ℕ) → ℕ → Type 0
IsPatience None seconds = seconds ≡ 120
IsPatience (Some text) seconds = (number_to 3600 text ≡ Some seconds) × (1 ≤ seconds)
