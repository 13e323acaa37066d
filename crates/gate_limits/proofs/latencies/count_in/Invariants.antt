use Rattle.std.proofs.Common.{◌≡◌, ◌++◌, map, take, drop}
use Rattle.gate_limits.specs.Latencies.{bucket_after}
use Rattle.gate_limits.proofs.latencies.count_in.Given as goal

abbrev pub invariant-buckets : goal.invariant-buckets
invariant-buckets l = l.buckets ≡ map (bucket_after l.nanos) (take l.bucket-index l.fn.buckets) ++ drop l.bucket-index l.fn.buckets
