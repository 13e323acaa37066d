use Rattle.caps.proofs.ParserLemmas.{fields_read}
use Rattle.caps.proofs.stored.read_stored.Goals as goal

pub returns : goal.returns
returns c =
    fields_read c.args.text.now c.in-Some.texts.name.now c.in-Some.texts.ueb.now c.in-Some.texts.k.now c.in-Some.texts.n.now c.in-Some.texts.size.now
    c.in_ok-name.name c.in_ok-ueb.ueb c.in-Some-numbers.k c.in-Some-numbers.n c.in-Some-numbers.size
    c.in-Some.ensures c.in_ok-name.ensures.0 c.in_ok-name.ensures.1 c.in_ok-ueb.ensures.0 c.in_ok-ueb.ensures.1
    c.in-Some-numbers.ensures.0 c.in-Some-numbers.ensures.1 c.in-Some-numbers.ensures.2 c.in-Some-numbers.ensures.3 c.in-Some-numbers.ensures.4
