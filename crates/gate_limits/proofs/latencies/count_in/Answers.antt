use Rattle.std.proofs.Common.{rules}
use Rattle.std.proofs.lemmas.List.Edits.{map_over_more}
use Rattle.std.proofs.lemmas.List.{take_all, drop_all}
use Rattle.gate_limits.specs.Latencies.{bucket_after}
use Rattle.gate_limits.proofs.latencies.count_in.Goals as goal

pub buckets-preserved : goal.buckets-preserved
buckets-preserved c = search (rules, map_over_more (bucket_after c.args.nanos))

pub returns : goal.returns
returns c = search (rules, take_all, drop_all)
