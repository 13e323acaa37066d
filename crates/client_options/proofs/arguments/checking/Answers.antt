use Rattle.std.proofs.Common.{[], ◌∷◌, codes}
use Rattle.command_words.specs.Rules.{flag}
use Rattle.client_options.specs.CommandLine.{node_rule, recursive, verify}
use Rattle.command_words.proofs.CommandLemmas.{listed}
use Rattle.client_options.proofs.arguments.checking.Goals as goal

pub returns : goal.returns
returns c =
    let rules = verify ∷ flag (codes "read") ∷ recursive ∷ node_rule ∷ [] in
    c.verb.ensures rules (listed rules c.in_ok-list.ensures.items (c.flag.ensures, (c.flag-2.ensures, (c.recursive.ensures, (c.node.ensures, tt)))))
