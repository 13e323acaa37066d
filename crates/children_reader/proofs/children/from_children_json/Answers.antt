use Rattle.std.proofs.Common.{Ok, sym, ap, ◌∙◌}
use Rattle.std.proofs.lemmas.Result.{err_from_is_err_and}
use Rattle.json_members.specs.MemberCuts.{first_token}
use Rattle.children_reader.proofs.Outcomes.{no_text, text_refused}
use Rattle.children_reader.proofs.PartTexts.{rest_begins}
use Rattle.children_reader.proofs.Stages.{members_made}
use Rattle.children_reader.proofs.children.from_children_json.Goals as goal

pub returns-in_default-from_utf8-clause-refused : goal.returns-in_default-from_utf8-clause-refused
returns-in_default-from_utf8-clause-refused c other = no_text c.args.json.now c.in_default-from_utf8.ensures.cases.0

pub returns-in_default-clause-refused : goal.returns-in_default-clause-refused
returns-in_default-clause-refused c other = text_refused c.why_no_object.result c.args.json.now c.in-Ok.text.now c.in-Ok.ensures.cases.0 c.in-Ok.ensures.cases.1 (c.why_no_object.ensures other)

pub returns-in_err-outcomes-clause-refused : goal.returns-in_err-outcomes-clause-refused
returns-in_err-outcomes-clause-refused c =
    let p = err_from_is_err_and c.from_residual.result c.from_residual.ensures.1 in
    rw (p.1, p.2) c.in_err-outcomes.ensures.err

pub returns-in_err-children-clause-refused : goal.returns-in_err-children-clause-refused
returns-in_err-children-clause-refused c =
    let found = c.in_ok-outcomes.ensures.ok in
    let p = err_from_is_err_and c.from_residual-in_err-children.result c.from_residual-in_err-children.ensures.1 in
    rw (p.1, p.2) (λ other. members_made c.args.json.now found.0 found.1 ∙ c.in_err-children.ensures.err other found.0 found.2)

pub returns-clause-made : goal.returns-clause-made
returns-clause-made c =
    let found = c.in_ok-outcomes.ensures.ok in
    members_made c.args.json.now found.0 found.1 ∙ c.in_ok-children.ensures.ok found.0 found.2 ∙ ap Ok (sym (c.from_entries.ensures ∙ c.in_ok-entries.ensures))

pub collect-requires : goal.collect-requires
collect-requires c = ap first_token c.in-Some.ensures.some.same ∙ rest_begins c.objects_begin_with_a_brace.ensures.first c.args.json.now c.in-Some.field-0
