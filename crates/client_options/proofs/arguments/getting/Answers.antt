use Rattle.std.proofs.Common.{[], ◌∷◌, codes}
use Rattle.command_words.specs.Rules.{placed_rule}
use Rattle.client_options.specs.CommandLine.{jobs, node_rule, recursive}
use Rattle.command_words.proofs.CommandLemmas.{listed}
use Rattle.client_options.proofs.arguments.getting.Goals as goal

pub returns : goal.returns
returns c =
    let rules = recursive ∷ jobs ∷ node_rule ∷ placed_rule (codes "file") ∷ [] in
    c.verb.ensures rules (listed rules c.in_ok-list.ensures.items (c.recursive.ensures, (c.jobs.ensures, (c.node.ensures, (c.place.ensures, tt)))))
