use Rattle.std.proofs.lemmas.Result.{on_ok_weaker}
use Rattle.json.specs.Reads.{token_of}
use Rattle.json_spelling.proofs.Following.{tokens_spelled, tokens_refused}
use Rattle.json_spelling.proofs.speller.SpellerTakesTokens.push.Goals as goal

pub returns-clause-ok : goal.returns-clause-ok
returns-clause-ok c = on_ok_weaker c.go_over.result (tokens_spelled (token_of c.args.token) c.args.self.now c.go_over.new.self) c.go_over.ensures.ok

pub returns-clause-err : goal.returns-clause-err
returns-clause-err c not_json = tokens_refused (token_of c.args.token) c.args.self.now (c.go_over.ensures.err not_json)
