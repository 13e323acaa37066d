use Rattle.std.proofs.lemmas.Result.{on_ok_weaker}
use Rattle.json.specs.Reads.{token_of}
use Rattle.json_spelling.proofs.TokensJudged.{tokens_judged, tokens_barred}
use Rattle.json_spelling.proofs.judge.JudgeTakesTokens.push.Goals as goal

pub returns-clause-ok : goal.returns-clause-ok
returns-clause-ok c = on_ok_weaker c.go_over.result (tokens_judged (token_of c.args.token) c.args.self.now c.go_over.new.self) c.go_over.ensures.ok

pub returns-clause-err : goal.returns-clause-err
returns-clause-err c not_json = tokens_barred (token_of c.args.token) c.args.self.now (c.go_over.ensures.err not_json)
