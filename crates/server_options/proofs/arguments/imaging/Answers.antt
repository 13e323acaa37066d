use Rattle.std.proofs.Common.{[], ◌∷◌}
use Rattle.server_options.specs.CommandLine.{paths_rule}
use Rattle.command_words.proofs.CommandLemmas.{listed}
use Rattle.server_options.proofs.arguments.imaging.Goals as goal

pub returns : goal.returns
returns c =
    let rules = paths_rule ∷ [] in
    c.verb.ensures rules (listed rules c.in_ok-list.ensures.items (c.paths.ensures, tt))
