use Rattle.json_stack.proofs.Runs.{state_after-append, failed_stays, done_is_last}
use Rattle.json_stack.proofs.laws.pieces_are_read_on.Goals as goal

pub returns : goal.returns
returns c = record { joined = state_after-append; stays_failed = failed_stays; nothing_behind = done_is_last }
