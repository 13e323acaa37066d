-- How long a connection's request takes.
use Rattle.std.specs.Prelude.{ℕ, List, [], ◌∷◌, Option, Some, None}
use Rattle.std.specs.declared.time.Instant.{Instant}
use Rattle.gate_limits.specs.declared.stopwatch.Begun.{Begun}
use Rattle.gate_limits.specs.declared.stopwatch.Stopwatch.{Stopwatch}
use Rattle.gate_limits.specs.Latencies.{named_kind}

abbrev pub stopwatch_at : Option Begun → Stopwatch
stopwatch_at begun = record { begun = begun }

-- bytes are at hand: the request that they are of goes on, or begins with them now
abbrev pub begun_with_in : List ℕ → Instant → Option Begun → Option Begun
begun_with_in bytes now (Some begun) = Some begun
begun_with_in [] now None = None
begun_with_in (byte ∷ bytes) now None = Some (record { kind = named_kind (byte ∷ bytes); since = now })

abbrev pub begun_with : List ℕ → Instant → Stopwatch → Stopwatch
begun_with bytes now stopwatch = stopwatch_at (begun_with_in bytes now stopwatch.begun)
