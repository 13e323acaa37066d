use Rattle.std.proofs.Common.{false, OnOk, refl, sym, subst, rules}
use Rattle.std.proofs.lemmas.Result.{on_ok_weaker}
use Rattle.json.specs.Token.{Token}
use Rattle.json.specs.Json as json
use Rattle.json.specs.Reads.{token_of}
use Rattle.json_stack.specs.Machine.{in_array, in_object}
use Rattle.serde_json.specs.Data.{no_items, no_members}
use Rattle.json_spelling.specs.Judge.{JudgesToken, BarsToken}
use Rattle.json_spelling.specs.Speller.{data_array, data_object, IsPlainValue}
use Rattle.json_spelling.specs.declared.judge.Bracket.{Bracket}
use Rattle.json_spelling.proofs.TokensJudged.{opening_judged, opening_barred, plain_judged, plain_barred, bad_barred}
use Rattle.json_spelling.proofs.judge.Judge.go_over.Goals as goal

pub returns-in-BeginArray-clause-ok : goal.returns-in-BeginArray-clause-ok
returns-in-BeginArray-clause-ok c =
    let old = c.args.self.now in
    let new = c.begin.new.self in
    let opened = opening_judged Token.begin_array (in_array json.no_items) (data_array no_items) (Bracket.Array false) (λ room frames. refl) refl (λ levels. refl) old new in
    subst (λ t. OnOk c.begin.result (JudgesToken old (token_of t) new)) (sym c.in-BeginArray.is) (on_ok_weaker c.begin.result opened c.begin.ensures.ok)

pub returns-in-BeginArray-clause-err : goal.returns-in-BeginArray-clause-err
returns-in-BeginArray-clause-err c not_json =
    subst (λ t. BarsToken c.args.self.now (token_of t)) (sym c.in-BeginArray.is) (opening_barred Token.begin_array (in_array json.no_items) (λ room frames. refl) c.args.self.now (c.begin.ensures.err not_json))

pub returns-in-BeginObject-clause-ok : goal.returns-in-BeginObject-clause-ok
returns-in-BeginObject-clause-ok c =
    let old = c.args.self.now in
    let new = c.begin-in-BeginObject.new.self in
    let opened = opening_judged Token.begin_object (in_object json.no_members) (data_object no_members) (Bracket.Object c.new.result) (λ room frames. refl) refl c.new.ensures old new in
    subst (λ t. OnOk c.begin-in-BeginObject.result (JudgesToken old (token_of t) new)) (sym c.in-BeginObject.is) (on_ok_weaker c.begin-in-BeginObject.result opened c.begin-in-BeginObject.ensures.ok)

pub returns-in-BeginObject-clause-err : goal.returns-in-BeginObject-clause-err
returns-in-BeginObject-clause-err c not_json =
    subst (λ t. BarsToken c.args.self.now (token_of t)) (sym c.in-BeginObject.is) (opening_barred Token.begin_object (in_object json.no_members) (λ room frames. refl) c.args.self.now (c.begin-in-BeginObject.ensures.err not_json))

pub returns-in-Null-clause-ok : goal.returns-in-Null-clause-ok
returns-in-Null-clause-ok c =
    let plain : IsPlainValue (token_of c.args.token) = search rules in
    on_ok_weaker c.push_scalar.result (plain_judged (token_of c.args.token) plain c.args.self.now c.push_scalar.new.self) c.push_scalar.ensures.ok

pub returns-in-Null-clause-err : goal.returns-in-Null-clause-err
returns-in-Null-clause-err c not_json =
    let plain : IsPlainValue (token_of c.args.token) = search rules in
    plain_barred (token_of c.args.token) plain c.args.self.now (c.push_scalar.ensures.err not_json)

pub returns-in-Bad-clause-err : goal.returns-in-Bad-clause-err
returns-in-Bad-clause-err c not_json = subst (λ t. BarsToken c.args.self.now (token_of t)) (sym c.in-Bad.is) (bad_barred c.args.self.now)
