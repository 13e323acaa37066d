use Rattle.std.proofs.Common.{rules}
use Rattle.client_options.specs.CommandLine.{check_verb, get_verb, ls_verb, mkdir_verb, put_verb, repair_verb}
use Rattle.command_words.proofs.CommandLemmas.{no_verbs, verb_more}
use Rattle.client_options.proofs.arguments.verbs.Goals as goal

pub returns : goal.returns
returns c =
    let with_put = verb_more put_verb c.putting.result c.in_ok-add_verb.ensures (no_verbs (search rules)) c.putting.ensures in
    let with_get = verb_more get_verb c.getting.result c.in_ok-add_verb-2.ensures with_put c.getting.ensures in
    let with_ls = verb_more ls_verb c.listing.result c.in_ok-add_verb-3.ensures with_get c.listing.ensures in
    let with_check = verb_more check_verb c.checking.result c.in_ok-add_verb-4.ensures with_ls c.checking.ensures in
    let with_repair = verb_more repair_verb c.repairing.result c.in_ok-add_verb-5.ensures with_check c.repairing.ensures in
    (verb_more mkdir_verb c.making.result c.in_ok-add_verb-6.ensures with_repair c.making.ensures).all
