use Rattle.std.proofs.Common.{sym, subst, ◌∙◌}
use Rattle.json.specs.Lex.{tokens}
use Rattle.json_spelling.specs.PieceReaders.{AreTokensRead}
use Rattle.json_spelling.specs.Speller.{HasSpelled}
use Rattle.json_spelling.proofs.Json.{none_spelled}
use Rattle.json_spelling.proofs.Judged.{spelling_read}
use Rattle.json_spelling.proofs.metadata_speller.spell_rising.Goals as goal

pub returns-in-All-clause-spelled : goal.returns-in-All-clause-spelled
returns-in-All-clause-spelled c before =
    let text = c.args.text.now in
    let read = subst (AreTokensRead HasSpelled text) c.in-All.is (c.in_ok-reader.ensures.read before) in
    c.into_metadata.ensures (tokens text) read.0 ∙ spelling_read text read.1

pub returns-in-NotJson-clause-spelled : goal.returns-in-NotJson-clause-spelled
returns-in-NotJson-clause-spelled c before = sym (none_spelled c.args.text.now (subst (AreTokensRead HasSpelled c.args.text.now) c.in-NotJson.is (c.in_ok-reader.ensures.read before)))
