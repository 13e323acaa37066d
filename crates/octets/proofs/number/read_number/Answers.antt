use Rattle.std.proofs.Common.{sym, ◌∙◌}
use Rattle.octets.proofs.Numbers.{decimal_is_text, refused}
use Rattle.octets.proofs.number.read_number.Goals as goal

pub returns-in_default-clause-number : goal.returns-in_default-clause-number
returns-in_default-clause-number c = absurd (c.in_default.ensures.cases.0 (decimal_is_text c.args.text.now (sym c.is_decimal_text.ensures ∙ c.if-not-is_decimal_text.false)))

pub returns-in_default-parse-2-clause-number : goal.returns-in_default-parse-2-clause-number
returns-in_default-parse-2-clause-number c =
    refused c.args.text.now c.in-Ok.digits.now c.args.most c.in_default-parse.field-0 c.in-Ok.ensures.cases.0 (sym c.is_decimal_text.ensures ∙ c.if-not-is_decimal_text.false) c.ranges.most.fits c.in_default-parse.ensures.value.0
