use Rattle.std.proofs.Common.{◌≡◌, ◌∙◌, [], List, ap, true}
use Rattle.std.proofs.lemmas.Result.{IfOk-weaker}
use Rattle.clap.specs.Words.{App, Rule, Shape, Text, app_of, new_app}
use Rattle.clap.specs.Simple.{app_of_fields, new_shape, on_top}
use Rattle.command_words.proofs.CommandLemmas.{IsApp, all_more, all_verbs}
use Rattle.command_words.proofs.commands.program_of.Goals as goal

abbrev versioned : App → App
versioned = on_top (λ s. record s { has_version = true })

abbrev wanting : App → App
wanting = on_top (λ s. record s { subcommand_required = true })

-- the program before its options and verbs, and with its options
abbrev bare : Text → App
bare name = wanting (versioned (new_app name))

abbrev top : Text → List Rule → Shape
top name rules = record (new_shape name) { rules = rules; has_version = true; subcommand_required = true }

pub returns : goal.returns
returns c = λ rules first more zip verbs.
    let name : Text = c.args.name.now in
    let version : app_of c.version.result ≡ versioned (new_app name) = ap app_of_fields c.version.ensures ∙ ap versioned c.new.ensures.app in
    let about : app_of c.about.result ≡ versioned (new_app name) = ap app_of_fields c.about.ensures ∙ version in
    let start : IsApp (bare name) c.subcommand_required.result = (
      ap app_of_fields c.subcommand_required.ensures ∙ ap wanting about,
      ap (λ f. f.has_globals) c.subcommand_required.ensures ∙ ap (λ f. f.has_globals) c.about.ensures ∙ ap (λ f. f.has_globals) c.version.ensures ∙ c.new.ensures.local,
    ) in
    let optioned : app_of c.in_ok-command.command ≡ (record { top = top name rules; subs = [] }) =
    (all_more c.subcommand_required.result c.in_ok-command.command (bare name) rules c.args.options.items c.in_ok-command.ensures start zip).0 in
    IfOk-weaker c.subcommands.result _ _
    (λ command adds. all_verbs c.in_ok-command.command command (top name rules) first more c.args.verbs.items adds optioned verbs) c.subcommands.ensures
