use Rattle.std.proofs.Common.{◌&&◌, refl, sym, ap, ◌∙◌}
use Rattle.std.specs.Prelude.{slice_get}
use Rattle.json_spelling.proofs.SpelledMetadata.{fits_metadata}
use Rattle.json_spelling.proofs.spelling.Spelled.is_metadata.Goals as goal

pub returns-then-fits : goal.returns-then-fits
returns-then-fits c d sound spelled =
    ap (λ b. b && c.eq.result) (sym c.if-fits.true) ∙ ap (λ b. c.fits.result && b) c.eq.ensures ∙ fits_metadata c.args.self.now c.fits.result c.first.result _ c.fits.ensures refl (c.first.ensures.value ∙ ap (λ bytes. slice_get bytes 0) c.deref.ensures.value) d sound spelled
