use Rattle.std.proofs.Common.{◌≡◌, ap}
use Rattle.serde_json.specs.View.{members_view}
use Rattle.children_reader.specs.declared.taking.Taking.{Taking}
use Rattle.children_reader.proofs.TakenMembers.{none_left, left_none}
use Rattle.children_reader.proofs.taking.Taking.take_some.Goals as goal

pub returns-in_default-clause-taken : goal.returns-in_default-clause-taken
returns-in_default-clause-taken c ts from =
    let at = c.loop-i.self in
    let same : c.pop_first.new.self.entries ≡ at.left.entries = (let h = c.in_default.ensures.unchanged in cc) in
    let now : Taking = record { left = c.pop_first.new.self; child = at.child; found = at.found; dropped = at.dropped } in
    none_left ts now (members_view at.left.entries) c.loop-i.invariant.none (ap members_view same) (left_none ts at c.loop-i.invariant.none (c.loop-i.invariant.taken ts from))
