use Rattle.merkle.proofs.FilledLemmas.{length-padded}
use Rattle.merkle.proofs.Padded.{root-one, root-halves, root-padded}
use Rattle.merkle.proofs.laws.roots_go_by_halves.Goals as goal

pub returns : goal.returns
returns c = record { one = root-one; halves = root-halves; padding = root-padded; padded = length-padded }
