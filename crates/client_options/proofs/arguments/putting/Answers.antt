use Rattle.std.proofs.Common.{[], ◌∷◌, codes}
use Rattle.command_words.specs.Rules.{needed}
use Rattle.client_options.specs.CommandLine.{jobs, recursive, skip_existing, verify}
use Rattle.command_words.proofs.CommandLemmas.{listed}
use Rattle.client_options.proofs.arguments.putting.Goals as goal

pub returns : goal.returns
returns c =
    let rules = recursive ∷ jobs ∷ skip_existing ∷ verify ∷ needed (codes "what") ∷ [] in
    c.verb.ensures rules (listed rules c.in_ok-list.ensures.items (c.recursive.ensures, (c.jobs.ensures, (c.skip_existing.ensures, (c.flag.ensures, (c.needed_place.ensures, tt))))))
