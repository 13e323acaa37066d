use Rattle.std.proofs.Common.{◌∙◌, sym}
use Rattle.caps.specs.declared.fault.CapFault.TheVariants.{UnknownKind, Mutable}
use Rattle.caps.proofs.ParserLemmas.{refused_answer, rest_read, rest_refused, rest_answer}
use Rattle.caps.proofs.parser.parse_bytes.Goals as goal

pub returns-then-names_mutable-clause-answer : goal.returns-then-names_mutable-clause-answer
returns-then-names_mutable-clause-answer c = refused_answer c.args.text.now Mutable (sym c.names_mutable.ensures ∙ c.if-names_mutable.true)

pub returns-in_default-clause-answer : goal.returns-in_default-clause-answer
returns-in_default-clause-answer c =
    refused_answer c.args.text.now UnknownKind (c.in_default.ensures, sym c.names_mutable.ensures ∙ c.if-names_mutable.false)

pub returns-clause-read : goal.returns-clause-read
returns-clause-read c = rest_read c.args.text.now c.in-Some.rest.now c.in-Some.kind c.parse_rest.result c.in-Some.ensures c.parse_rest.ensures

pub returns-clause-refused : goal.returns-clause-refused
returns-clause-refused c = rest_refused c.args.text.now c.in-Some.rest.now c.in-Some.kind c.parse_rest.result c.in-Some.ensures c.parse_rest.ensures

pub returns-clause-answer : goal.returns-clause-answer
returns-clause-answer c = rest_answer c.args.text.now c.in-Some.rest.now c.in-Some.kind c.parse_rest.result c.in-Some.ensures c.parse_rest.ensures
