use Rattle.std.proofs.Common.{◌≡◌, ℕ, true, false, ◌==◌, List, [], ◌∷◌, length, Option, Some, None, ap, rules}
use Rattle.std.specs.Option.{is_none}
use Rattle.std.specs.declared.time.Instant.{Instant}
use Rattle.gate_limits.specs.declared.latencies.RequestKind.{RequestKind}
use Rattle.gate_limits.specs.declared.stopwatch.Begun.{Begun}
use Rattle.gate_limits.specs.Latencies.{named_kind}
use Rattle.gate_limits.specs.Stopwatch.{begun_with_in, stopwatch_at}
use Rattle.gate_limits.proofs.stopwatch.Stopwatch.sees.Goals as goal

-- where none had begun, a request begins with its first bytes
begun_first : (bytes : List ℕ) (now : Instant) (begun : Option Begun) (kind : RequestKind) → is_none begun ≡ true → (length bytes == 0) ≡ false → kind ≡ named_kind bytes
    → stopwatch_at (Some (record { kind = kind; since = now })) ≡ stopwatch_at (begun_with_in bytes now begun)
begun_first bytes now (Some begun) kind none some is = absurd (let clash : false ≡ true = none in cc)
begun_first [] now None kind none some is = absurd (let clash : true ≡ false = some in cc)
begun_first (byte ∷ bytes) now None kind none some is = ap (λ (k : RequestKind). stopwatch_at (Some (record { kind = k; since = now }))) is

pub returns-then-not-is_empty : goal.returns-then-not-is_empty
returns-then-not-is_empty c =
    begun_first c.args.bytes.now c.args.now c.args.self.now.begun c.of.result
    (search rules) (search rules) c.of.ensures
