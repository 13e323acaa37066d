use Rattle.std.proofs.Common.{◌==◌, length, true, false, sym, ap, ◌∙◌}
use Rattle.dir_codec.proofs.Names.{same_text_is_name, empty_is_none, other_is_none}
use Rattle.dir_codec.proofs.decoder.name_in.Goals as goal

pub returns-in_default : goal.returns-in_default
returns-in_default c = other_is_none c.args.bytes.now c.in_default.ensures.cases.0

pub returns-then-is_empty : goal.returns-then-is_empty
returns-then-is_empty c =
    empty_is_none c.args.bytes.now c.in-Ok.ensures.cases.1 (ap (λ t. length t == 0) (sym c.in-Ok.ensures.cases.0) ∙ sym c.is_empty.ensures ∙ c.if-is_empty.true)

pub returns-then-in_form : goal.returns-then-in_form
returns-then-in_form c =
    let some = sym c.is_empty.ensures ∙ c.if-is_empty.false in
    (same_text_is_name c.in-Ok.text.now c.args.bytes.now c.in_ok-in_form.in_form true c.in-Ok.ensures.cases.0 c.in-Ok.ensures.cases.1 some c.in_ok-in_form.ensures.answer c.if-in_form.true, c.in-Ok.ensures.cases.0)

pub returns-else-in_form : goal.returns-else-in_form
returns-else-in_form c =
    let some = sym c.is_empty.ensures ∙ c.if-is_empty.false in
    same_text_is_name c.in-Ok.text.now c.args.bytes.now c.in_ok-in_form.in_form false c.in-Ok.ensures.cases.0 c.in-Ok.ensures.cases.1 some c.in_ok-in_form.ensures.answer c.if-in_form.false
