use Rattle.std.proofs.Common.{◌≡◌, Some, None, refl, sym, ◌∙◌, arith}
use Rattle.std.proofs.lemmas.Result.{on_ok_weaker}
use Rattle.json.specs.Token.{Token}
use Rattle.json.specs.Json as json
use Rattle.serde_json.specs.Data.{number}
use Rattle.serde_json.specs.Read.{number_of}
use Rattle.json_spelling.proofs.Following.{none_behind_number, number_read}
use Rattle.json_spelling.proofs.TokensJudged.{number_missing, number_found, scalar_judged, scalar_barred}
use Rattle.json_spelling.proofs.judge.Judge.push_number.Goals as goal

pub returns-in_err-whole-clause-err : goal.returns-in_err-whole-clause-err
returns-in_err-whole-clause-err c _ s at =
    let none : c.integer_in.result ≡ None = grind arith in
    none_behind_number c.args.text.now (number_missing (number_of c.args.text.now) (sym c.integer_in.ensures ∙ none)) s

pub returns-clause-ok : goal.returns-clause-ok
returns-clause-ok c =
    let text = c.args.text.now in
    let whole = c.in_ok-whole.whole in
    let some : c.integer_in.result ≡ Some whole = grind arith in
    let found = number_found (number_of text) whole (sym some ∙ c.integer_in.ensures) in
    on_ok_weaker c.push_scalar.result
    (scalar_judged (Token.number text) (json.number text) (number found.0) c.is_some.result (λ room frames. refl) (number_read text found.0 found.1) refl (c.is_some.ensures ∙ found.2) c.args.self.now c.push_scalar.new.self) c.push_scalar.ensures.ok

pub returns-clause-err : goal.returns-clause-err
returns-clause-err c not_json = scalar_barred (Token.number c.args.text.now) (json.number c.args.text.now) (λ room frames. refl) c.args.self.now (c.push_scalar.ensures.err not_json)
