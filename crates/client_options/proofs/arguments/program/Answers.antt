use Rattle.std.proofs.Common.{[], ◌∷◌, codes}
use Rattle.command_words.specs.Rules.{flag, valued}
use Rattle.client_options.specs.CommandLine.{check_verb, get_verb, ls_verb, mkdir_verb, put_verb, repair_verb}
use Rattle.command_words.proofs.CommandLemmas.{listed}
use Rattle.client_options.proofs.arguments.program.Goals as goal

pub returns : goal.returns
returns c =
    let rules = valued (codes "gateway") ∷ valued (codes "patience") ∷ flag (codes "quiet") ∷ [] in
    c.program_of.ensures rules put_verb (get_verb ∷ ls_verb ∷ check_verb ∷ repair_verb ∷ mkdir_verb ∷ [])
    (listed rules c.in_ok-options.ensures.items (c.valued.ensures, (c.valued-2.ensures, (c.flag.ensures, tt)))) c.in_ok-verbs.ensures
