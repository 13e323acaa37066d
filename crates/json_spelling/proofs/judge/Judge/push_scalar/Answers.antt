use Rattle.std.proofs.Common.{sym, ◌∙◌}
use Rattle.json_spelling.specs.Judge.{levels_left}
use Rattle.json_spelling.proofs.TokensJudged.{scalar_fit, scalar_kind}
use Rattle.json_spelling.proofs.judge.Judge.push_scalar.Goals as goal

pub returns-clause-ok : goal.returns-clause-ok
returns-clause-ok c s j d made flat fit at =
    c.in_ok-end_value.ensures s j d made (scalar_kind d flat) (scalar_fit d (levels_left s) c.args.fit flat fit) (sym (c.awaits_value.ensures s at) ∙ c.if-not-awaits_value.false) at
