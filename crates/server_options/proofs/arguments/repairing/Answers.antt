use Rattle.server_options.specs.CommandLine.{repair_rules}
use Rattle.command_words.proofs.CommandLemmas.{listed}
use Rattle.server_options.proofs.arguments.repairing.Goals as goal

pub returns : goal.returns
returns c = c.verb.ensures repair_rules (listed repair_rules c.in_ok-list.ensures.items (c.new_folders.ensures, (c.no_sync.ensures, (c.redis_password_file.ensures, (c.paths.ensures, tt)))))
