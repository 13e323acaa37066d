use Rattle.std.proofs.Common.{codes}
use Rattle.clap.specs.Words.{found_of}
use Rattle.server_options.proofs.NumberLemmas.{number_read}
use Rattle.server_options.proofs.options.servers_of.Goals as goal

pub returns : goal.returns
returns c =
    number_read 16 (found_of c.args.given.now) (codes "servers") 5 _ c.get_one.result c.get_one.ensures.none c.get_one.ensures.value c.unwrap_or.ensures
