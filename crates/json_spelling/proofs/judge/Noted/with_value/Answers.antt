use Rattle.std.proofs.Common.{map, string_bytes, sym, ap, ap₂, ◌∙◌}
use Rattle.json_spelling.proofs.Unfit.{with_key, without_key, text_inserted, text_removed, unfit_put, fit_put}
use Rattle.json_spelling.proofs.judge.Noted.with_value.Goals as goal

pub returns-then-fit : goal.returns-then-fit
returns-then-fit c levels ms k d sound fit noted =
    let old = c.args.self.unfit.keys in
    ap (map string_bytes) c.remove.ensures.keys ∙ text_removed c.as_str.result.now old ∙ ap₂ without_key noted.0 (c.as_str.ensures.value ∙ noted.1) ∙ sym (fit_put levels k d ms sound (sym fit ∙ c.if-fit.true))

pub returns : goal.returns
returns c levels ms k d sound fit noted =
    let old = c.args.self.unfit.keys in
    ap (map string_bytes) c.in_ok-insert.ensures.keys ∙ text_inserted c.args.self.key old ∙ ap₂ with_key noted.0 noted.1 ∙ sym (unfit_put levels k d ms sound (sym fit ∙ c.if-fit.false))
