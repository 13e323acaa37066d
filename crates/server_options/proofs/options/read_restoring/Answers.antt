use Rattle.std.proofs.Common.{ap, not}
use Rattle.server_options.proofs.AskedLemmas.{shares_given}
use Rattle.server_options.proofs.options.read_restoring.Goals as goal

pub returns-clause-read : goal.returns-clause-read
returns-clause-read c = record {
  file = c.word_of-2.ensures;
  folders = c.in_ok-folders.ensures;
  shares = shares_given _ _ c.in-Some.shares c.word_of.ensures c.in-Some.ensures.pair c.in-Some.ensures.sharing;
  synced = ap not c.has_flag.ensures;
  secret_file = c.find_word.ensures;
}
