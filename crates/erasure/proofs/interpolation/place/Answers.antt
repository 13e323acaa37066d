use Rattle.std.proofs.Common.{sym, ap, ◌∙◌}
use Rattle.erasure.specs.Code.{place_of}
use Rattle.erasure.proofs.Places.{place-zero, place_at}
use Rattle.erasure.proofs.interpolation.place.Goals as goal

pub returns-then-number-eq0 : goal.returns-then-number-eq0
returns-then-number-eq0 c = sym (ap place_of c.if-number-eq0.true ∙ place-zero)

pub returns-else-number-eq0 : goal.returns-else-number-eq0
returns-else-number-eq0 c = c.exp.ensures ∙ place_at c.args.number c.if-number-eq0.false
