use Rattle.std.proofs.Common.{[], ◌∷◌, codes}
use Rattle.command_words.specs.Rules.{flag}
use Rattle.client_options.specs.CommandLine.{node_rule}
use Rattle.command_words.proofs.CommandLemmas.{listed}
use Rattle.client_options.proofs.arguments.listing.Goals as goal

pub returns : goal.returns
returns c =
    let rules = flag (codes "json") ∷ node_rule ∷ [] in
    c.verb.ensures rules (listed rules c.in_ok-list.ensures.items (c.flag.ensures, (c.node.ensures, tt)))
