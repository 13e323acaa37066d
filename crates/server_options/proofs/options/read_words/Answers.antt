use Rattle.std.proofs.Common.{◌≡◌, ◌∙◌, IfOk, ap, map, refl, string_bytes, subst, true}
use Rattle.std.proofs.lemmas.Result.{IfOk-weaker}
use Rattle.clap.specs.Words.{App, is_simple, subcommand_of}
use Rattle.clap.specs.declared.builder.value_parser.ValueParser.{ValueParser}
use Rattle.clap.proofs.OnLiterals.{clap_on_literals}
use Rattle.server_options.specs.Asked.{IsTaskGiven}
use Rattle.server_options.specs.CommandLine.{wozhinnam}
use Rattle.server_options.proofs.options.read_words.Goals as goal

simple : (levels formats : ValueParser) → is_simple (wozhinnam levels formats) ≡ true
unfolding clap_on_literals
simple levels formats = refl

pub returns : goal.returns
returns c =
    let made = c.in_ok-command.ensures in
    let words = map string_bytes c.args.words.now in
    let asked = subst (λ (a : App). IfOk c.read_by.result (IsTaskGiven (subcommand_of a words))) made.2 (c.read_by.ensures (ap is_simple made.2 ∙ simple made.0 made.1)) in
    IfOk-weaker c.read_by.result _ _ (λ task is. (made.0, made.1, is)) asked
