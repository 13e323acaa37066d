use Rattle.std.proofs.Common.{◌≡◌, ◌++◌, map, take}
use Rattle.std.specs.List.{join_with_byte}
use Rattle.health_json.specs.Checks.{bad_share_text}
use Rattle.health_json.proofs.report.put_shares.Given as goal

abbrev pub invariant-loop-at : goal.invariant-loop-at
invariant-loop-at l = l.out.items ≡ l.fn.out.items ++ join_with_byte 44 (map (bad_share_text l.index) (take l.at l.shares))
