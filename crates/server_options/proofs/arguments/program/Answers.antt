use Rattle.std.proofs.Common.{rules, [], ◌∷◌, codes}
use Rattle.std.proofs.lemmas.Result.{IfOk-weaker}
use Rattle.command_words.specs.Verbs.{verb}
use Rattle.server_options.specs.CommandLine.{paths_rule, repair_rules, reshape_rules, restore_rules, serve_rules}
use Rattle.command_words.proofs.CommandLemmas.{listed}
use Rattle.server_options.proofs.arguments.program.Goals as goal

pub returns : goal.returns
returns c =
    let verbs = c.in_ok-verbs.ensures in
    let serve = verb (codes "serve") (serve_rules verbs.0 verbs.1) in
    let others = verb (codes "check") (paths_rule ∷ []) ∷ verb (codes "repair") repair_rules ∷ verb (codes "reshape") reshape_rules ∷ verb (codes "image") (paths_rule ∷ []) ∷ verb (codes "restore") restore_rules ∷ [] in
    IfOk-weaker c.program_of.result _ _ (λ command is. (verbs.0, verbs.1, is)) (c.program_of.ensures [] serve others (listed [] {args = []} (search rules) tt) verbs.2)
