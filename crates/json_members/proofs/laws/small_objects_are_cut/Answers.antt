use Rattle.std.proofs.Common.{refl}
use Rattle.json.specs.Json.{value}
use Rattle.json.proofs.OnLiterals.{json_on_literals}
use Rattle.json_members.specs.Brackets.{bracket_depth}
use Rattle.json_members.specs.JoinedObjects.{members_before}
use Rattle.json_members.proofs.laws.small_objects_are_cut.Goals as goal

pub returns-clause-whole : goal.returns-clause-whole
unfolding json_on_literals bracket_depth members_before value
returns-clause-whole c = refl

pub returns-clause-none_before : goal.returns-clause-none_before
unfolding json_on_literals bracket_depth members_before value
returns-clause-none_before c = refl

pub returns-clause-none_behind : goal.returns-clause-none_behind
unfolding json_on_literals bracket_depth members_before value
returns-clause-none_behind c = refl

pub returns-clause-no_object : goal.returns-clause-no_object
unfolding json_on_literals bracket_depth members_before value
returns-clause-no_object c = refl

pub returns-clause-open : goal.returns-clause-open
unfolding json_on_literals bracket_depth members_before value
returns-clause-open c = refl

pub returns-clause-closed : goal.returns-clause-closed
unfolding json_on_literals bracket_depth members_before value
returns-clause-closed c = refl

pub returns-clause-in_string : goal.returns-clause-in_string
unfolding json_on_literals bracket_depth members_before value
returns-clause-in_string c = refl

pub returns-clause-none_open : goal.returns-clause-none_open
unfolding json_on_literals bracket_depth members_before value
returns-clause-none_open c = refl
