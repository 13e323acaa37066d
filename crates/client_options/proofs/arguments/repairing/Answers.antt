use Rattle.std.proofs.Common.{[], ◌∷◌}
use Rattle.client_options.specs.CommandLine.{node_rule, recursive}
use Rattle.command_words.proofs.CommandLemmas.{listed}
use Rattle.client_options.proofs.arguments.repairing.Goals as goal

pub returns : goal.returns
returns c =
    let rules = recursive ∷ node_rule ∷ [] in
    c.verb.ensures rules (listed rules c.in_ok-list.ensures.items (c.recursive.ensures, (c.node.ensures, tt)))
