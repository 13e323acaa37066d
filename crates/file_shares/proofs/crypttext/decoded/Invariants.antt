use Rattle.std.proofs.Common.{◌≡◌, map, true}
use Rattle.std.specs.List.{concat, list_all, range_with_len}
use Rattle.file_shares.specs.Fit.{segment_from, has_zeros}
use Rattle.file_shares.proofs.crypttext.decoded.Given as goal

abbrev pub invariant-loop-at : goal.invariant-loop-at
invariant-loop-at l = record {
  bytes : l.bytes.items ≡ concat (map (segment_from l.params l.shares) (range_with_len 0 l.at));
  zeros : list_all (has_zeros l.params l.shares) (range_with_len 0 l.at) ≡ true;
}
