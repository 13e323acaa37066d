-- Bytes for tests.
use Rattle.std.specs.Prelude.{ℕ, ◌%◌, List, map}
use Rattle.std.specs.List.{range_with_len}

-- so many bytes, byte i being i modulo 251, a prime
unfoldable pub counted : ℕ → List ℕ
counted count = map (λ i. i % 251) (range_with_len 0 count)
