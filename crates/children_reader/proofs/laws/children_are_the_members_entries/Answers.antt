use Rattle.dir_codec.proofs.Refused.{CapsAreDecided}
use Rattle.children_reader.proofs.Gathering.{entries_are, faults_are}
use Rattle.children_reader.proofs.laws.children_are_the_members_entries.Goals as goal

pub returns : goal.returns
returns c =
    let caps : CapsAreDecided = (c.reading_is_decided.ensures.read, c.reading_is_decided.ensures.refused, c.reading_is_decided.ensures.total) in
    record {
      made = entries_are caps;
      refused = faults_are caps;
    }
