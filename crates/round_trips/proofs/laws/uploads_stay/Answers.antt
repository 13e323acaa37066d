use Rattle.chk_file.specs.Upload.{fields}
use Rattle.round_trips.proofs.Standing.{held_while, known_on, still_enough}
use Rattle.round_trips.proofs.laws.uploads_stay.Goals as goal

pub returns : goal.returns
returns c =
    let laws = c.changes_are_local.ensures in
    record {
      held = held_while;
      known = λ settings u w entries known. known_on settings u (fields u) w entries known;
      enough = still_enough laws.lose laws.spoil;
    }
