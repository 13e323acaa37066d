use Rattle.std.proofs.Common.{◌≡◌, ◌++◌, drop}
use Rattle.health_json.specs.Checks.{sharemap_text}
use Rattle.health_json.proofs.Sharemap.{left_text}
use Rattle.health_json.proofs.report.put_sharemap.Given as goal

abbrev pub invariant-loop-server : goal.invariant-loop-server
invariant-loop-server l = l.out.items ++ left_text l.before (drop l.server-index l.places) ≡ l.fn.out.items ++ sharemap_text l.places
