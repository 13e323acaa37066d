use Rattle.std.proofs.Common.{refl, arith}
use Rattle.tag_hash.proofs.LaneLemmas.{each_lane}
use Rattle.tag_hash.proofs.batch.as_values.Goals as goal

pub returns-clause-each : goal.returns-clause-each
returns-clause-each c = each_lane _ refl refl refl refl refl refl refl refl

pub returns-clause-long : goal.returns-clause-long
returns-clause-long c = each_lane _ (omega arith) (omega arith) (omega arith) (omega arith) (omega arith) (omega arith) (omega arith) (omega arith)
