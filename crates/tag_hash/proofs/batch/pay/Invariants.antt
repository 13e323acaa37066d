use Rattle.std.proofs.Common.{◌*◌, ◌+◌, ◌<◌, ◌≤◌, ◌^◌, length}
use Rattle.std.specs.List.{AllWithin}
use Rattle.tag_hash.proofs.batch.pay.Given as goal

abbrev pub invariant-loop-value : goal.invariant-loop-value
invariant-loop-value l = record {
  longest : l.longest < 2 ^ 58 + 128;
  all : l.all ≤ (2 ^ 58 + 128) * l.value-index;
  short : AllWithin (λ value. length value.now < 2 ^ 58) l.values 0 l.value-index;
}
