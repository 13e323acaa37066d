use Rattle.std.proofs.Common.{rules, [], ◌∷◌, IfOk, codes, subst, sym}
use Rattle.clap.specs.declared.builder.value_parser.ValueParser.{ValueParser}
use Rattle.command_words.specs.Verbs.{HasShape, verb}
use Rattle.server_options.specs.CommandLine.{paths_rule, repair_rules, reshape_rules, restore_rules, serve_rules}
use Rattle.command_words.proofs.CommandLemmas.{no_verbs, verb_more}
use Rattle.server_options.proofs.arguments.verbs.Goals as goal

pub returns : goal.returns
returns c =
    let first = c.in_ok-add_verb.ensures in
    let serve = subst (λ made. IfOk made (λ command. (levels formats : ValueParser) × HasShape (verb (codes "serve") (serve_rules levels formats)) command)) first.1 c.serving.ensures in
    let serve_verb = verb (codes "serve") (serve_rules serve.0 serve.1) in
    let with_serve = verb_more serve_verb c.serving.result first (no_verbs (search rules)) (subst (λ made. IfOk made (HasShape serve_verb)) (sym first.1) serve.2) in
    let with_check = verb_more (verb (codes "check") (paths_rule ∷ [])) c.checking.result c.in_ok-add_verb-2.ensures with_serve c.checking.ensures in
    let with_repair = verb_more (verb (codes "repair") repair_rules) c.repairing.result c.in_ok-add_verb-3.ensures with_check c.repairing.ensures in
    let with_reshape = verb_more (verb (codes "reshape") reshape_rules) c.reshaping.result c.in_ok-add_verb-4.ensures with_repair c.reshaping.ensures in
    let with_image = verb_more (verb (codes "image") (paths_rule ∷ [])) c.imaging.result c.in_ok-add_verb-5.ensures with_reshape c.imaging.ensures in
    let with_restore = verb_more (verb (codes "restore") restore_rules) c.restoring.result c.in_ok-add_verb-6.ensures with_image c.restoring.ensures in
    (serve.0, serve.1, with_restore.all)
