-- How fast bytes pass.
use Rattle.std.specs.Prelude.{ℕ, ◌*◌, ◌-◌, ◌/◌, ◌^◌, min, max}

-- so many bytes in so many milliseconds, of which there is one at least, are so many a second, as far as 64 bits go
abbrev pub rate_of : ℕ → ℕ → ℕ
rate_of bytes milliseconds = min (bytes * 1000) (2 ^ 64 - 1) / max milliseconds 1
