use Rattle.grid.proofs.Views.{tell_on_none}
use Rattle.grid.proofs.Turns.{unchanged_none}
use Rattle.gate_core.proofs.Serving.{Leaves-refl}
use Rattle.gate_core.proofs.foresight.prepare_end.Goals as goal

pub returns-then-not-is_its_turn-clause-told : goal.returns-then-not-is_its_turn-clause-told
returns-then-not-is_its_turn-clause-told g c = tell_on_none c.args.grid.now

pub returns-else-not-is_its_turn-clause-told : goal.returns-else-not-is_its_turn-clause-told
returns-else-not-is_its_turn-clause-told g c = tell_on_none c.args.grid.now

pub returns-else-can_check_ahead-clause-told : goal.returns-else-can_check_ahead-clause-told
returns-else-can_check_ahead-clause-told g c = tell_on_none c.args.grid.now

pub returns-in-None-clause-told : goal.returns-in-None-clause-told
returns-in-None-clause-told g c = tell_on_none c.args.grid.now

pub returns-then-not-is_its_turn-2-clause-told : goal.returns-then-not-is_its_turn-2-clause-told
returns-then-not-is_its_turn-2-clause-told g c = tell_on_none c.args.grid.now

pub returns-else-can_read_ahead-clause-told : goal.returns-else-can_read_ahead-clause-told
returns-else-can_read_ahead-clause-told g c = tell_on_none c.args.grid.now

pub returns-then-not-is_its_turn-3-clause-told : goal.returns-then-not-is_its_turn-3-clause-told
returns-then-not-is_its_turn-3-clause-told g c = tell_on_none c.args.grid.now

pub returns-else-can_list_ahead-clause-told : goal.returns-else-can_list_ahead-clause-told
returns-else-can_list_ahead-clause-told g c = tell_on_none c.args.grid.now

pub returns-in_default-3-clause-told : goal.returns-in_default-3-clause-told
returns-in_default-3-clause-told g c = tell_on_none c.args.grid.now

pub returns-in_default : goal.returns-in_default
returns-in_default g c = record { leaves = Leaves-refl c.args.grid.now; unchanged = λ honest. unchanged_none c.args.grid.now; told = tell_on_none c.args.grid.now; fresh = λ fresh. fresh }

pub returns-in_default-2 : goal.returns-in_default-2
returns-in_default-2 g c = record { leaves = Leaves-refl c.args.grid.now; unchanged = λ honest. unchanged_none c.args.grid.now; told = tell_on_none c.args.grid.now; fresh = λ fresh. fresh }
