use Rattle.std.proofs.Common.{refl}
use Rattle.serde_json.proofs.OnLiterals.{serde_json_on_literals}
use Rattle.json_view.specs.Strings.{quoted}
use Rattle.json_view.proofs.Plain.{plain_text_quoted, joined_quoted}
use Rattle.json_view.proofs.laws.strings_have_their_escapes.Goals as goal

pub returns-clause-quote : goal.returns-clause-quote
unfolding serde_json_on_literals quoted
returns-clause-quote c = refl

pub returns-clause-control : goal.returns-clause-control
unfolding serde_json_on_literals quoted
returns-clause-control c = refl

pub returns-clause-plain : goal.returns-clause-plain
returns-clause-plain c = plain_text_quoted

pub returns-clause-joined : goal.returns-clause-joined
returns-clause-joined c = joined_quoted
