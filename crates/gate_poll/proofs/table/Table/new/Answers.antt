use Rattle.std.proofs.Common.{arith}
use Rattle.gate_poll.proofs.Keeping.{kept_none, kept_more}
use Rattle.gate_poll.proofs.table.Table.new.Goals as goal

pub returns-clause-kept : goal.returns-clause-kept
returns-clause-kept c =
    kept_more 1 c.new.result.next c.new-2.result.entries c.in_ok-new.field-0 (omega arith) (kept_none c.new-2.result.entries c.in_ok-new.field-0 c.new-2.ensures.empty c.in_ok-new.ensures.none c.in_ok-new.ensures.idle)
