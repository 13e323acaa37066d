use Rattle.json_spelling.proofs.Spellings.{same_metadata}
use Rattle.json_spelling.proofs.laws.spellings_stand_for_metadata.Goals as goal

pub returns : goal.returns
returns c = same_metadata
