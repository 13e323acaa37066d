use Rattle.server_options.specs.CommandLine.{reshape_rules}
use Rattle.command_words.proofs.CommandLemmas.{listed}
use Rattle.server_options.proofs.arguments.reshaping.Goals as goal

pub returns : goal.returns
returns c = c.verb.ensures reshape_rules (listed reshape_rules c.in_ok-list.ensures.items (c.paths.ensures, (c.new_places.ensures, (c.no_sync.ensures, tt))))
