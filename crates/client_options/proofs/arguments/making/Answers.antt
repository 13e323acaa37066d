use Rattle.std.proofs.Common.{[], ◌∷◌}
use Rattle.client_options.specs.CommandLine.{children_rule}
use Rattle.command_words.proofs.CommandLemmas.{listed}
use Rattle.client_options.proofs.arguments.making.Goals as goal

pub returns : goal.returns
returns c =
    let rules = children_rule ∷ [] in
    c.verb.ensures rules (listed rules c.in_ok-list.ensures.items (c.children.ensures, tt))
