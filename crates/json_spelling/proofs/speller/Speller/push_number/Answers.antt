use Rattle.std.proofs.Common.{◌||◌, refl, ap, ◌∙◌, arith}
use Rattle.json.specs.Token.{Token}
use Rattle.json.specs.Json as json
use Rattle.serde_json.specs.Data.{number}
use Rattle.serde_json.specs.Find.{is_float}
use Rattle.json_spelling.specs.Spelled.{IsExtent}
use Rattle.json_spelling.proofs.Following.{value_gone_over, value_refused, number_unread, number_read}
use Rattle.json_spelling.proofs.speller.Speller.push_number.Goals as goal

pub returns-in_err-begin_value-clause-err : goal.returns-in_err-begin_value-clause-err
returns-in_err-begin_value-clause-err c not_json =
    let text = c.args.text.now in
    value_refused (Token.number text) (json.number text) (λ room frames. refl) c.args.self.now (c.begin_value.ensures.err (grind arith))

pub returns-in_err-extent-clause-err : goal.returns-in_err-extent-clause-err
returns-in_err-extent-clause-err c not_json = number_unread c.args.text.now (c.spell_number.ensures.err (grind arith)) c.args.self.now

pub returns-clause-ok : goal.returns-clause-ok
returns-clause-ok c =
    let text = c.args.text.now in
    let begun = c.begin_value.new.self in
    let number_is = c.in_ok-extent.ensures.ok in
    let beside = c.beside-self.ensures in
    let extent : IsExtent c.beside-self.result begun.extent.levels (begun.extent.fractional || is_float number_is.0) = (omega (arith, beside.0, number_is.3.0), beside.1 ∙ ap (λ b. begun.extent.fractional || b) number_is.3.1) in
    value_gone_over (Token.number text) (json.number text) (number number_is.0) (λ room frames. refl) (number_read text number_is.0 number_is.1) refl c.args.self.now begun _ c.end_value.new.self c.in_ok-begin_value.ensures.ok number_is.2 number_is.4 refl refl refl extent c.in_ok-end_value.ensures
