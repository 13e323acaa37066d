use Rattle.std.proofs.Common.{sym, subst}
use Rattle.chk_file.specs.World.{empty}
use Rattle.chk_file.specs.Sound.{IsSoundWorld}
use Rattle.gate_core.proofs.Worlds.{proper_sound}
use Rattle.gate_core.proofs.laws.worlds_of_runs_are_sound.Goals as goal

pub returns : goal.returns
returns c =
    let stay = c.worlds_stay_sound.ensures in
    record {
      run = λ s w xs proper sound. proper_sound stay.upload stay.lose stay.spoil s xs w proper sound;
      left = λ s w past left. subst IsSoundWorld (sym left.world) (proper_sound stay.upload stay.lose stay.spoil s past empty left.proper stay.empty);
    }
