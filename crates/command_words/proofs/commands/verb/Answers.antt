use Rattle.std.proofs.Common.{◌∙◌, ap}
use Rattle.std.proofs.lemmas.Result.{IfOk-weaker}
use Rattle.clap.specs.Words.{App, new_app}
use Rattle.clap.specs.Simple.{app_of_fields}
use Rattle.command_words.proofs.CommandLemmas.{IsApp, all_more}
use Rattle.command_words.proofs.commands.verb.Goals as goal

pub returns : goal.returns
returns c = λ rules zip.
    let bare : App = new_app c.args.name.now in
    let start : IsApp bare c.about.result = (ap app_of_fields c.about.ensures ∙ c.new.ensures.app, ap (λ f. f.has_globals) c.about.ensures ∙ c.new.ensures.local) in
    IfOk-weaker c.args-2.result _ _
    (λ command adds.
    let all = all_more c.about.result command bare rules c.args.arguments.items adds start zip in
    (ap (λ (a : App). a.top) all.0, all.1))
    c.args-2.ensures
