use Rattle.std.proofs.Common.{subst, sym}
use Rattle.json.specs.Reads.{token_of}
use Rattle.json_spelling.specs.Speller.{RefusesToken}
use Rattle.json_spelling.proofs.Following.{bad_refused}
use Rattle.json_spelling.proofs.speller.Speller.go_over.Goals as goal

pub returns-in-Bad-clause-err : goal.returns-in-Bad-clause-err
returns-in-Bad-clause-err c not_json = subst (λ t. RefusesToken c.args.self.now (token_of t)) (sym c.in-Bad.is) (bad_refused c.args.self.now)
