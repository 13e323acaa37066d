use Rattle.json_spelling.proofs.TokensJudged.{metadata_judged}
use Rattle.json_spelling.proofs.judge.Judge.finish.Goals as goal

pub returns : goal.returns
returns c = metadata_judged c.args.self c.unwrap_or.result c.unwrap_or.ensures
