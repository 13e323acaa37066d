use Rattle.std.proofs.Common.{refl}
use Rattle.json.proofs.OnLiterals.{json_on_literals}
use Rattle.json_seams.proofs.laws.small_texts_are_cut.Goals as goal

pub returns-clause-whole : goal.returns-clause-whole
unfolding json_on_literals
returns-clause-whole c = refl

pub returns-clause-members : goal.returns-clause-members
unfolding json_on_literals
returns-clause-members c = refl

pub returns-clause-at_first : goal.returns-clause-at_first
unfolding json_on_literals
returns-clause-at_first c = refl

pub returns-clause-at_last : goal.returns-clause-at_last
unfolding json_on_literals
returns-clause-at_last c = refl

pub returns-clause-no_value : goal.returns-clause-no_value
unfolding json_on_literals
returns-clause-no_value c = refl

pub returns-clause-twice : goal.returns-clause-twice
unfolding json_on_literals
returns-clause-twice c = refl

pub returns-clause-in_string : goal.returns-clause-in_string
unfolding json_on_literals
returns-clause-in_string c = refl

pub returns-clause-in_escape : goal.returns-clause-in_escape
unfolding json_on_literals
returns-clause-in_escape c = refl

pub returns-clause-behind_string : goal.returns-clause-behind_string
unfolding json_on_literals
returns-clause-behind_string c = refl

pub returns-clause-in_word : goal.returns-clause-in_word
unfolding json_on_literals
returns-clause-in_word c = refl
