use Rattle.std.proofs.Common.{rules, codes}
use Rattle.command_words.specs.Given.{given_rows, words_of}
use Rattle.server_options.proofs.StoreLemmas.{named_ones}
use Rattle.server_options.proofs.options.read_stores.Goals as goal

pub returns-clause-given : goal.returns-clause-given
returns-clause-given c =
    let rows = given_rows c.args.given.now in
    record {
      room = c.in-Some.room;
      says_room = search rules;
      named = named_ones rows c.in-Some.room (words_of (codes "store") rows) c.in_ok-stores.stores.items c.in_ok-stores.ensures (search rules);
    }
