-- How long requests took: how many took a time up to each bound, how many there were, and their times in all.
use Rattle.std.specs.Prelude.{ℕ, ◌+◌, ◌-◌, ◌^◌, min, nat_eq, nat_le, if◌then◌else◌, List, [], ◌∷◌, map, codes}
use Rattle.std.specs.List.{starts_with}
use Rattle.gate_limits.specs.declared.latencies.Bucket.{Bucket}
use Rattle.gate_limits.specs.declared.latencies.Histogram.{Histogram}
use Rattle.gate_limits.specs.declared.latencies.Latencies.{Latencies}
use Rattle.gate_limits.specs.declared.latencies.RequestKind.{RequestKind}
use Rattle.gate_limits.specs.declared.latencies.RequestKind.TheVariants.{Get, Head, Put, Post, Other}

-- the method that first bytes name, with the space behind it (RFC 9112, section 3)
abbrev pub named_kind : List ℕ → RequestKind
named_kind bytes =
    if starts_with nat_eq bytes (codes "GET ") then Get
    else if starts_with nat_eq bytes (codes "HEAD ") then Head
    else if starts_with nat_eq bytes (codes "PUT ") then Put
    else if starts_with nat_eq bytes (codes "POST ") then Post
    else Other

abbrev pub empty_bucket : ℕ → Bucket
empty_bucket bound = record { bound = bound; count = 0 }

-- a time of so many nanoseconds counts in a bucket whose bound is no less, once
abbrev pub bucket_after : ℕ → Bucket → Bucket
bucket_after nanos bucket = if nat_le nanos bucket.bound then record bucket { count = min (bucket.count + 1) (2 ^ 64 - 1) } else bucket

-- the bounds are 1, 3, 10, 30, 100 and 300 milliseconds, and 1, 3 and 10 seconds
abbrev pub empty_histogram : Histogram
empty_histogram = record {
  buckets = empty_bucket 1_000_000 ∷ empty_bucket 3_000_000 ∷ empty_bucket 10_000_000 ∷ empty_bucket 30_000_000 ∷ empty_bucket 100_000_000
      ∷ empty_bucket 300_000_000 ∷ empty_bucket 1_000_000_000 ∷ empty_bucket 3_000_000_000 ∷ empty_bucket 10_000_000_000 ∷ [];
  count = 0;
  nanos = 0;
}

-- a time counts in each bucket that it belongs to, once among all, and is added to the times
abbrev pub histogram_after : ℕ → Histogram → Histogram
histogram_after nanos histogram = record {
  buckets = map (bucket_after nanos) histogram.buckets;
  count = min (histogram.count + 1) (2 ^ 64 - 1);
  nanos = min (histogram.nanos + nanos) (2 ^ 64 - 1);
}

abbrev pub empty_latencies : Latencies
empty_latencies = record { get = empty_histogram; head = empty_histogram; put = empty_histogram; post = empty_histogram; other = empty_histogram }

-- a time counts among those of its kind alone
abbrev pub latencies_after : RequestKind → ℕ → Latencies → Latencies
latencies_after Get nanos latencies = record latencies { get = histogram_after nanos latencies.get }
latencies_after Head nanos latencies = record latencies { head = histogram_after nanos latencies.head }
latencies_after Put nanos latencies = record latencies { put = histogram_after nanos latencies.put }
latencies_after Post nanos latencies = record latencies { post = histogram_after nanos latencies.post }
latencies_after Other nanos latencies = record latencies { other = histogram_after nanos latencies.other }
