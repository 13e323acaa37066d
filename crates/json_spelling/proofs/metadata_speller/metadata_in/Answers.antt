use Rattle.std.proofs.Common.{IsUtf8, sym, subst, ◌∙◌}
use Rattle.json_spelling.proofs.Json.{spelling_there}
use Rattle.json_spelling.proofs.metadata_speller.metadata_in.Goals as goal

pub returns : goal.returns
returns c d json sound written =
    c.into_metadata.ensures d sound (written.text, (written.levels, written.fractional), subst IsUtf8 c.as_slice.ensures.value c.in-Ok.ensures.cases.1)
    ∙ sym (spelling_there c.args.text.now d json)
