use Rattle.std.proofs.Common.{sym, ap, ◌∙◌, option_map}
use Rattle.std.proofs.lemmas.Result.{on_ok_weaker}
use Rattle.serde_json.specs.Data.{object}
use Rattle.serde_json.specs.View.{view, members_view}
use Rattle.children_reader.proofs.taking.Taking.take_member.Goals as goal

pub returns-in-Some-clause-taken : goal.returns-in-Some-clause-taken
returns-in-Some-clause-taken c =
    on_ok_weaker c.take_fields.result (λ goes ts before. goes ts (view c.args.value) (sym c.in_ok-fields_in.ensures ∙ ap (option_map (λ fields. object (members_view fields.entries))) c.in-Some.is) before) c.take_fields.ensures.taken
