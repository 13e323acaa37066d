use Rattle.std.proofs.Common.{◌≡◌, ◌∙◌, [], List, Option, ap, codes, map, refl, string_bytes, subst, true}
use Rattle.clap.specs.Faults.{fault_of, is_simple_and_free}
use Rattle.clap.specs.Words.{App, Row, Text, first_of, found_of, is_simple, matches_of, rows_of, subcommand_of, subcommand_rows_of}
use Rattle.clap.proofs.OnLiterals.{clap_on_literals}
use Rattle.command_words.specs.Given.{is_set}
use Rattle.client_options.specs.Asked.{IsTask}
use Rattle.client_options.specs.CommandLine.{woz}
use Rattle.client_options.proofs.task.read_words.Goals as goal

simple_and_free : is_simple_and_free woz ≡ true
unfolding clap_on_literals
simple_and_free = refl

simple : is_simple woz ≡ true
unfolding clap_on_literals
simple = refl

pub returns-clause-refused : goal.returns-clause-refused
returns-clause-refused c =
    let is = c.in_ok-program.ensures in
    subst (λ (a : App). fault_of a (map string_bytes c.args.words.now) ≡ []) is (c.in_ok-matches.ensures.kinds (ap is_simple_and_free is ∙ simple_and_free))

pub returns-clause-read : goal.returns-clause-read
returns-clause-read c =
    let is = c.in_ok-program.ensures in
    let words = map string_bytes c.args.words.now in
    let found = c.in_ok-matches.ensures.matches (ap is_simple is ∙ simple) in
    let top : rows_of (found_of c.in_ok-matches.matches) ≡ matches_of woz words = found.0 ∙ ap (λ (a : App). matches_of a words) is in
    let verb : subcommand_rows_of c.in_ok-matches.matches ≡ subcommand_of woz words = found.1 ∙ ap (λ (a : App). subcommand_of a words) is in
    record {
      gateway = c.find_word.ensures ∙ ap (first_of (codes "gateway")) top;
      patience = c.find_word-2.ensures ∙ ap (first_of (codes "patience")) top;
      quiet = c.has_flag.ensures ∙ ap (is_set (codes "quiet")) top;
      task = subst (λ (given : Option (Text × List Row)). IsTask given c.in_ok-task.task) verb c.in_ok-task.ensures;
    }
