use Rattle.std.proofs.Common.{codes}
use Rattle.clap.specs.Words.{found_of}
use Rattle.server_options.proofs.NumberLemmas.{number_if_read}
use Rattle.server_options.proofs.options.per_address_of.Goals as goal

pub returns : goal.returns
returns c =
    number_if_read 64 (found_of c.args.given.now) (codes "per-address") c.get_one.result c.get_one.ensures.none c.get_one.ensures.value
