use Rattle.json_spelling.proofs.SpelledMetadata.{none_ended, value_ended}
use Rattle.json_spelling.proofs.speller.Speller.into_metadata.Goals as goal

pub returns-in-Ok : goal.returns-in-Ok
returns-in-Ok c = value_ended c.args.self c.in-Ok.spelled _ c.in-Ok.ensures c.into_metadata.ensures

pub returns : goal.returns
returns c = none_ended c.args.self (λ s at. (c.in-Err.field-0, c.in-Err.ensures s at))
