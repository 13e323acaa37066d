use Rattle.std.proofs.Common.{◌≡◌, [], length}
use Rattle.dir_codec.specs.Entries.{last_name, AreEntriesAbove}
use Rattle.dir_codec.specs.Reading.{reading_after}
use Rattle.dir_codec.specs.Sought.{after_those}
use Rattle.dir_codec.proofs.decoder.read_entries.Given as goal

abbrev pub invariant-loop-rest : goal.invariant-loop-rest
invariant-loop-rest l = record {
  read : reading_after [] l.text ≡ after_those l.entries.items (reading_after (last_name [] l.entries.items) l.rest);
  kept : AreEntriesAbove [] l.entries.items;
}

abbrev pub decreases-loop-rest : goal.decreases-loop-rest
decreases-loop-rest l = length l.rest
