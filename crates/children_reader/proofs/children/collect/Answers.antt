use Rattle.std.proofs.Common.{subst}
use Rattle.std.proofs.lemmas.Result.{err_from_is_err_and}
use Rattle.json.specs.Lex.{tokens}
use Rattle.children_reader.specs.Collected.{AreMembersRead}
use Rattle.children_reader.proofs.Outcomes.{no_text, text_refused}
use Rattle.children_reader.proofs.PartsRead.{IsPutIn, whole_read}
use Rattle.children_reader.proofs.children.collect.Goals as goal

pub returns-in_default-clause-err : goal.returns-in_default-clause-err
returns-in_default-clause-err c other = no_text c.args.json.now c.in_default.ensures.cases.0

pub returns-in_err-found-clause-err : goal.returns-in_err-found-clause-err
returns-in_err-found-clause-err c =
    let p = err_from_is_err_and c.from_residual.result c.from_residual.ensures.1 in
    let text = c.in-Ok.ensures.cases in
    rw (p.1, p.2) (λ other. text_refused c.in_err-found.field-0.0 c.args.json.now c.in-Ok.text.now text.0 text.1 (c.in_err-found.ensures.err other))

pub returns-clause-ok : goal.returns-clause-ok
returns-clause-ok c =
    let text = c.in-Ok.ensures.cases in
    let found = c.in_ok-found.found.items in
    let outcomes = c.put_in.new.outcomes.entries in
    whole_read c.args.json.now found outcomes text.1 (subst (λ t. AreMembersRead found (tokens t)) text.0 c.in_ok-found.ensures.ok) (subst (λ es. IsPutIn es outcomes found) c.new-outcomes.ensures.empty c.in_ok-put_in.ensures)
