use Rattle.std.proofs.Common.{length, ◌-◌, ◌≡◌, ◌≤◌, map, take}
use Rattle.tag_hash.specs.Tagged.{tagged}
use Rattle.tag_hash.proofs.batch.tagged_all.Given as goal

abbrev pub invariant-loop-at : goal.invariant-loop-at
invariant-loop-at l = record {
  within : l.at ≤ length l.values;
  hashed : l.digests.items ≡ map (λ value. tagged l.tag value.now) (take l.at l.values);
}

abbrev pub decreases-loop-at : goal.decreases-loop-at
decreases-loop-at l = length l.values - l.at
