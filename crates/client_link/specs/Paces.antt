-- Bytes that pass too slowly.
use Rattle.std.specs.Prelude.{ℕ, ◌*◌, ◌<◌, ◌≤◌}

-- so many bytes in so many milliseconds: as many seconds as somebody has patience have passed, and fewer than 1,024 bytes came in each second of the whole time
abbrev pub AreTooFew : ℕ → ℕ → ℕ → Type 0
AreTooFew bytes milliseconds patience = (patience * 1000 ≤ milliseconds) × (bytes * 1000 < 1024 * milliseconds)
