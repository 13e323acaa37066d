use Rattle.merkle.proofs.Levels.{height_fits, height_least}
use Rattle.merkle.proofs.laws.heights_are_the_least.Goals as goal

pub returns : goal.returns
returns c = record { fits = height_fits; least = height_least }
