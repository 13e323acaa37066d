use Rattle.std.proofs.Common.{◌∙◌, ap, not}
use Rattle.std.specs.List.{All}
use Rattle.server_options.specs.Folders.{IsStoreFolder}
use Rattle.server_options.specs.Logging.{named_format, named_level}
use Rattle.server_options.proofs.AskedLemmas.{not_none, of_the_same, shares_given}
use Rattle.server_options.proofs.options.read_options.Goals as goal

pub returns-clause-read : goal.returns-clause-read
returns-clause-read c = record {
  listen = c.in_ok-listen.ensures.texts;
  addresses = c.in_ok-listen.ensures.addresses;
  control = c.find_word.ensures;
  control_token_file = c.find_word-2.ensures;
  shares = shares_given _ _ c.in-Some.shares c.word_of.ensures c.in-Some.ensures.pair c.in-Some.ensures.sharing;
  stores = c.in_ok-stores.ensures.served;
  one_is_present = c.in_ok-stores.ensures.one_is_present;
  new = c.in_ok-new.ensures;
  new_is_a_store = of_the_same (λ stores paths. All (λ path. IsStoreFolder stores path.now) paths) c.deref.ensures.value c.deref-2.ensures.value
      (c.are_folders_of.ensures c.if-not-are_folders_of.false);
  synced = ap not c.has_flag.ensures;
  secret_file = c.find_word-secret_file.ensures;
  redis_password_file = c.find_word-3.ensures;
  pages = c.find_word-4.ensures;
  no_pages = c.has_flag-2.ensures;
  connections = c.connections_of.ensures;
  per_address = c.per_address_of.ensures;
  idle = c.idle_of.ensures;
  memory = c.in_ok-memory.ensures.some;
  log_level = c.named_level.ensures ∙ ap named_level c.word_of-2.ensures;
  log_format = c.named_format.ensures ∙ ap named_format c.word_of-3.ensures;
}

pub returns-in_err-new-clause-no_shares : goal.returns-in_err-new-clause-no_shares
returns-in_err-new-clause-no_shares c = λ none.
    absurd (not_none _ _ c.in-Some.shares c.word_of.ensures c.in-Some.ensures.pair c.in-Some.ensures.sharing none)

pub returns-then-not-are_folders_of-clause-no_shares : goal.returns-then-not-are_folders_of-clause-no_shares
returns-then-not-are_folders_of-clause-no_shares c = λ none.
    absurd (not_none _ _ c.in-Some.shares c.word_of.ensures c.in-Some.ensures.pair c.in-Some.ensures.sharing none)

pub returns-clause-no_shares : goal.returns-clause-no_shares
returns-clause-no_shares c = λ none.
    absurd (not_none _ _ c.in-Some.shares c.word_of.ensures c.in-Some.ensures.pair c.in-Some.ensures.sharing none)

pub returns-in_err-memory-clause-no_shares : goal.returns-in_err-memory-clause-no_shares
returns-in_err-memory-clause-no_shares c = λ none.
    absurd (not_none _ _ c.in-Some.shares c.word_of.ensures c.in-Some.ensures.pair c.in-Some.ensures.sharing none)

pub returns-in_err-listen-clause-no_shares : goal.returns-in_err-listen-clause-no_shares
returns-in_err-listen-clause-no_shares c = λ none.
    absurd (not_none _ _ c.in-Some.shares c.word_of.ensures c.in-Some.ensures.pair c.in-Some.ensures.sharing none)
