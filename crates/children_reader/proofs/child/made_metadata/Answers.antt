use Rattle.std.proofs.Common.{◌≡◌, codes, Some, sym, ap, ◌∙◌}
use Rattle.children_reader.proofs.AtFields.{object_kept}
use Rattle.json_spelling.proofs.Json.{empty_spelled}
use Rattle.children_reader.proofs.child.made_metadata.Goals as goal

pub returns-in_default-clause-kept : goal.returns-in_default-clause-kept
returns-in_default-clause-kept c found at =
    let same : c.from_string.result ≡ codes "{}" = c.from_string.ensures ∙ c.in_ok-from_str.ensures.ok in
    rw same empty_spelled

pub returns-in-Ok-clause-kept : goal.returns-in-Ok-clause-kept
returns-in-Ok-clause-kept c found at =
    let same : c.from_string-in-Ok.result ≡ c.in-Object.spelled.text.items = c.from_string-in-Ok.ensures ∙ ap (λ v. v.items) c.in-Ok.ensures.ok in
    rw same (object_kept c.args.field c.in-Object.spelled found (c.in-Some.is ∙ ap Some c.in-Object.is) at (sym c.fits.ensures ∙ c.if-not-fits.false))
