use Rattle.std.proofs.Common.{◌+◌, ◌≡◌, ◌<◌, ◌^◌, ◌++◌, drop, length}
use Rattle.tag_hash.specs.Decimal.{decimal_text}
use Rattle.tag_hash.proofs.decimals.Decimal.new.Given as goal

abbrev pub invariant-loop-rest : goal.invariant-loop-rest
invariant-loop-rest l = record {
  text : decimal_text l.number ≡ decimal_text l.rest ++ drop (l.start + 1) l.digits;
  room : l.rest < 10 ^ (l.start + 1);
  in_range : l.start < 20;
  sized : length l.digits ≡ 20;
}

abbrev pub decreases-loop-rest : goal.decreases-loop-rest
decreases-loop-rest l = l.rest
