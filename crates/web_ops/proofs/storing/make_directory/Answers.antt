use Rattle.std.proofs.Common.{sym, ap, ◌∙◌}
use Rattle.std.specs.Prelude.{option_map}
use Rattle.grid.proofs.Views.{tell_on_none}
use Rattle.web_ops.specs.Encoding.{encoding_of}
use Rattle.web_ops.proofs.CarriedOut.{text_stored}
use Rattle.web_ops.proofs.storing.make_directory.Goals as goal

pub returns-in-Some-clause-done : goal.returns-in-Some-clause-done
returns-in-Some-clause-done g c =
    text_stored (encoding_of c.args.k c.args.n c.args.secret.now) c.args.json.now c.in-Some.text.items c.store.result c.args.grid.now c.store.new.grid
    (ap (option_map (λ bytes. bytes.items)) (sym c.in-Some.is) ∙ c.in_ok-text.ensures.text) c.store.ensures.done

pub returns-in_err-text-clause-told : goal.returns-in_err-text-clause-told
returns-in_err-text-clause-told g c = tell_on_none c.args.grid.now

pub returns-in-None-clause-told : goal.returns-in-None-clause-told
returns-in-None-clause-told g c = tell_on_none c.args.grid.now
