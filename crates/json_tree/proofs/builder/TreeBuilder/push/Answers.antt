use Rattle.std.proofs.Common.{◌≡◌, Some, None, OnOk, option_map, subst, sym, refl, ap, ◌∙◌, arith}
use Rattle.std.proofs.lemmas.Result.{on_ok_weaker}
use Rattle.json.specs.Token.{Token}
use Rattle.json.specs.Json as json
use Rattle.json.specs.Reads.{token_of}
use Rattle.json_stack.specs.Machine.{in_array, in_object}
use Rattle.serde_json.specs.Data.{number, string}
use Rattle.serde_json.specs.Read.{number_of, of_json}
use Rattle.serde_json.specs.View.{view, number_view, items_view, members_view}
use Rattle.serde_json.specs.declared.value.Value as value
use Rattle.json_tree.specs.Builders.{HasFrame, FollowsToken, HasNoValueWith}
use Rattle.json_tree.specs.declared.builder.Opened.{Opened}
use Rattle.json_tree.proofs.Frames.{over_begun, begun_refused, over_ended, ended_refused, view-Null, view-Bool, view-Number, view-String, bad_refused}
use Rattle.json_tree.proofs.Numbers.{number_refused}
use Rattle.json_tree.proofs.builder.TreeBuilder.push.Goals as goal

pub returns-in-BeginArray-clause-ok : goal.returns-in-BeginArray-clause-ok
returns-in-BeginArray-clause-ok c =
    let has : HasFrame (in_array json.no_items) (Opened.Array c.new.result) = ap (λ vs. Some (items_view vs)) (sym c.new.ensures.items) in
    subst (λ t. OnOk c.begin.result (FollowsToken c.args.self.now (token_of t) c.begin.new.self)) (sym c.in-BeginArray.is)
    (on_ok_weaker c.begin.result (over_begun Token.begin_array (in_array json.no_items) (Opened.Array c.new.result) c.args.self.now c.begin.new.self (λ room frames. refl) has) c.begin.ensures.ok)

pub returns-in-BeginArray-clause-err : goal.returns-in-BeginArray-clause-err
returns-in-BeginArray-clause-err c not_json =
    subst (λ t. HasNoValueWith c.args.self.now (token_of t)) (sym c.in-BeginArray.is)
    (begun_refused Token.begin_array (in_array json.no_items) c.args.self.now (λ room frames. refl) (c.begin.ensures.err not_json))

pub returns-in-BeginObject-clause-ok : goal.returns-in-BeginObject-clause-ok
returns-in-BeginObject-clause-ok c =
    let has : HasFrame (in_object json.no_members) (Opened.Object c.new-in-BeginObject.result) = ap (λ ms. Some (members_view ms)) (sym c.new-in-BeginObject.ensures.empty) in
    subst (λ t. OnOk c.begin-in-BeginObject.result (FollowsToken c.args.self.now (token_of t) c.begin-in-BeginObject.new.self)) (sym c.in-BeginObject.is)
    (on_ok_weaker c.begin-in-BeginObject.result (over_begun Token.begin_object (in_object json.no_members) (Opened.Object c.new-in-BeginObject.result) c.args.self.now c.begin-in-BeginObject.new.self (λ room frames. refl) has) c.begin-in-BeginObject.ensures.ok)

pub returns-in-BeginObject-clause-err : goal.returns-in-BeginObject-clause-err
returns-in-BeginObject-clause-err c not_json =
    subst (λ t. HasNoValueWith c.args.self.now (token_of t)) (sym c.in-BeginObject.is)
    (begun_refused Token.begin_object (in_object json.no_members) c.args.self.now (λ room frames. refl) (c.begin-in-BeginObject.ensures.err not_json))

pub returns-in_ok-from_str-in-String-clause-ok : goal.returns-in_ok-from_str-in-String-clause-ok
returns-in_ok-from_str-in-String-clause-ok c =
    let text = c.in_ok-from_str-in-String.field-0 in
    let has : of_json (json.string c.in-String.text.now) ≡ Some (view (value.String text)) = ap (λ s. Some (string s)) (sym c.in_ok-from_str-in-String.ensures.ok) ∙ ap Some (sym (view-String text)) in
    subst (λ t. OnOk c.push_value.result (FollowsToken c.args.self.now (token_of t) c.push_value.new.self)) (sym c.in-String.is)
    (on_ok_weaker c.push_value.result (over_ended (Token.string c.in-String.text.now) (json.string c.in-String.text.now) (value.String text) c.args.self.now c.push_value.new.self (λ room frames. refl) has) c.push_value.ensures.ok)

pub returns-in_ok-from_str-in-String-clause-err : goal.returns-in_ok-from_str-in-String-clause-err
returns-in_ok-from_str-in-String-clause-err c not_json =
    subst (λ t. HasNoValueWith c.args.self.now (token_of t)) (sym c.in-String.is)
    (ended_refused (Token.string c.in-String.text.now) (json.string c.in-String.text.now) c.args.self.now (λ room frames. refl) (c.push_value.ensures.err not_json))

pub returns-in_ok-number-in-Number-clause-ok : goal.returns-in_ok-number-in-Number-clause-ok
returns-in_ok-number-in-Number-clause-ok c =
    let n = c.in_ok-number-in-Number.number in
    let found : c.number_in.result ≡ Some n = grind arith in
    let has : of_json (json.number c.in-Number.text.now) ≡ Some (view (value.Number n)) = ap (option_map number) (sym c.number_in.ensures ∙ ap (option_map number_view) found) ∙ ap Some (sym (view-Number n)) in
    subst (λ t. OnOk c.push_value-in-Number.result (FollowsToken c.args.self.now (token_of t) c.push_value-in-Number.new.self)) (sym c.in-Number.is)
    (on_ok_weaker c.push_value-in-Number.result (over_ended (Token.number c.in-Number.text.now) (json.number c.in-Number.text.now) (value.Number n) c.args.self.now c.push_value-in-Number.new.self (λ room frames. refl) has) c.push_value-in-Number.ensures.ok)

pub returns-in_ok-number-in-Number-clause-err : goal.returns-in_ok-number-in-Number-clause-err
returns-in_ok-number-in-Number-clause-err c not_json =
    subst (λ t. HasNoValueWith c.args.self.now (token_of t)) (sym c.in-Number.is)
    (ended_refused (Token.number c.in-Number.text.now) (json.number c.in-Number.text.now) c.args.self.now (λ room frames. refl) (c.push_value-in-Number.ensures.err not_json))

pub returns-in-Bool-clause-ok : goal.returns-in-Bool-clause-ok
returns-in-Bool-clause-ok c =
    let has : of_json (json.boolean c.in-Bool.b) ≡ Some (view (value.Bool c.in-Bool.b)) = ap Some (sym (view-Bool c.in-Bool.b)) in
    subst (λ t. OnOk c.push_value-in-Bool.result (FollowsToken c.args.self.now (token_of t) c.push_value-in-Bool.new.self)) (sym c.in-Bool.is)
    (on_ok_weaker c.push_value-in-Bool.result (over_ended (Token.boolean c.in-Bool.b) (json.boolean c.in-Bool.b) (value.Bool c.in-Bool.b) c.args.self.now c.push_value-in-Bool.new.self (λ room frames. refl) has) c.push_value-in-Bool.ensures.ok)

pub returns-in-Bool-clause-err : goal.returns-in-Bool-clause-err
returns-in-Bool-clause-err c not_json =
    subst (λ t. HasNoValueWith c.args.self.now (token_of t)) (sym c.in-Bool.is)
    (ended_refused (Token.boolean c.in-Bool.b) (json.boolean c.in-Bool.b) c.args.self.now (λ room frames. refl) (c.push_value-in-Bool.ensures.err not_json))

pub returns-in-Null-clause-ok : goal.returns-in-Null-clause-ok
returns-in-Null-clause-ok c =
    let has : of_json json.null ≡ Some (view value.Null) = ap Some (sym view-Null) in
    subst (λ t. OnOk c.push_value-in-Null.result (FollowsToken c.args.self.now (token_of t) c.push_value-in-Null.new.self)) (sym c.in-Null.is)
    (on_ok_weaker c.push_value-in-Null.result (over_ended Token.null json.null value.Null c.args.self.now c.push_value-in-Null.new.self (λ room frames. refl) has) c.push_value-in-Null.ensures.ok)

pub returns-in-Null-clause-err : goal.returns-in-Null-clause-err
returns-in-Null-clause-err c not_json =
    subst (λ t. HasNoValueWith c.args.self.now (token_of t)) (sym c.in-Null.is)
    (ended_refused Token.null json.null c.args.self.now (λ room frames. refl) (c.push_value-in-Null.ensures.err not_json))

pub returns-in_err-number-in-Number-clause-err : goal.returns-in_err-number-in-Number-clause-err
returns-in_err-number-in-Number-clause-err c not_json =
    let none : c.number_in.result ≡ None = grind arith in
    let unread : number_of c.in-Number.text.now ≡ None = sym c.number_in.ensures ∙ ap (option_map number_view) none in
    subst (λ t. HasNoValueWith c.args.self.now (token_of t)) (sym c.in-Number.is) (number_refused c.in-Number.text.now unread c.args.self.now)

pub returns-in-Bad-clause-err : goal.returns-in-Bad-clause-err
returns-in-Bad-clause-err c not_json = subst (λ t. HasNoValueWith c.args.self.now (token_of t)) (sym c.in-Bad.is) (bad_refused c.args.self.now)
