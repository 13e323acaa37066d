use Rattle.std.proofs.Common.{◌<◌, arith}
use Rattle.std.proofs.lemmas.List.{ext_get_or}
use Rattle.gate_limits.proofs.bearer.count_differences.Goals as goal

pub returns-clause-same : goal.returns-clause-same
returns-clause-same c = λ none.
    ext_get_or 0 c.args.given.now c.args.wanted.now c.requires
    (λ k within. let below : k < c.places.at = omega arith in c.places.invariant.same none k below)
