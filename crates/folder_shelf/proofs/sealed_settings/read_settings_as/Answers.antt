use Rattle.folder_shelf.proofs.Fields.{length-settings_text_as}
use Rattle.folder_shelf.proofs.sealed_settings.read_settings_as.Goals as goal

pub returns-then-text-ne-TEXT-clause-reads : goal.returns-then-text-ne-TEXT-clause-reads
returns-then-text-ne-TEXT-clause-reads c = λ s are e.
    absurd (c.if-text-ne-TEXT.true (length-settings_text_as c.args.format.now c.told-format c.args.text.now s are e))
