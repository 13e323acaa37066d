use Rattle.server_options.specs.CommandLine.{restore_rules}
use Rattle.command_words.proofs.CommandLemmas.{listed}
use Rattle.server_options.proofs.arguments.restoring.Goals as goal

pub returns : goal.returns
returns c = c.verb.ensures restore_rules (listed restore_rules c.in_ok-list.ensures.items (c.shares.ensures, (c.secret_file.ensures, (c.no_sync.ensures, (c.needed_place.ensures, (c.paths.ensures, tt))))))
