use Rattle.std.proofs.Common.{subst, ◌∙◌}
use Rattle.json.specs.Lex.{tokens}
use Rattle.json_spelling.specs.Judge.{HasJudged}
use Rattle.json_spelling.specs.PieceReaders.{AreTokensRead}
use Rattle.json_spelling.proofs.Judged.{spelling_there, no_spelling}
use Rattle.json_spelling.proofs.judging.Judging.step.Goals as goal

pub returns-in-All-clause-judged : goal.returns-in-All-clause-judged
returns-in-All-clause-judged c before =
    let text = c.args.text.now in
    let read = subst (AreTokensRead HasJudged text) c.in-All.is (c.in_ok-reader.ensures.read before) in
    c.finish.ensures (tokens text) read.0 ∙ spelling_there text read.1

pub returns-in-NotJson-clause-judged : goal.returns-in-NotJson-clause-judged
returns-in-NotJson-clause-judged c before = no_spelling c.args.text.now (subst (AreTokensRead HasJudged c.args.text.now) c.in-NotJson.is (c.in_ok-reader.ensures.read before))

pub returns-clause-judged : goal.returns-clause-judged
returns-clause-judged c before = absurd (c.in_ok-reader.ensures.order c.in-NotRising.is)
