use Rattle.std.proofs.Common.{sym, subst}
use Rattle.serde_json.specs.Read.{max_depth}
use Rattle.json_tree.specs.Builders.{HasTakenTokens}
use Rattle.json_spelling.specs.MetadataSpellers.{IsSpelledOn}
use Rattle.json_spelling.specs.PieceReaders.{AreTokensRead}
use Rattle.json_spelling.proofs.Json.{none_spelled}
use Rattle.json_spelling.proofs.metadata_speller.build_on.Goals as goal

pub returns-in-NotJson-clause-spelled : goal.returns-in-NotJson-clause-spelled
returns-in-NotJson-clause-spelled c before =
    let text = c.args.text.now in
    subst (IsSpelledOn text) (sym c.going-in-NotJson.ensures) (none_spelled text (subst (AreTokensRead (HasTakenTokens max_depth) text) c.in-NotJson.is (c.in_ok-reader.ensures.read before)))
