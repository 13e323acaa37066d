use Rattle.std.proofs.Common.{codes, refl}
use Rattle.command_words.specs.Given.{given_rows}
use Rattle.server_options.proofs.AskedLemmas.{verb_given}
use Rattle.server_options.proofs.options.read_task.Goals as goal

pub returns-in_ok-read_options : goal.returns-in_ok-read_options
returns-in_ok-read_options c = (
  given_rows c.in-Some.given.now,
  (verb_given c.args.matches.now c.in-Some.given.now (codes "serve") (c.in-Some.ensures.found.0 refl) c.in-Some.ensures.rows, c.in_ok-read_options.ensures.read),
)
