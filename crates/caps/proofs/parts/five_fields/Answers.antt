use Rattle.caps.proofs.ParserLemmas.{six_parts}
use Rattle.caps.proofs.parts.five_fields.Goals as goal

pub returns-in-Some : goal.returns-in-Some
returns-in-Some c =
    six_parts c.args.text.now c.in_ok-name.name.now c.in_ok-ueb.ueb.now c.in_ok-k.k.now c.in_ok-n.n.now c.in-Some.field-0.0.now
    c.in_ok-name.rest.now c.in_ok-ueb.rest.now c.in_ok-k.rest.now c.in_ok-n.size.now c.in-Some.field-0.1.now
    c.in_ok-name.ensures c.in_ok-ueb.ensures c.in_ok-k.ensures c.in_ok-n.ensures c.in-Some.ensures
