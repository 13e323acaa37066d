use Rattle.tag_hash.specs.Lanes.{four}
use Rattle.tag_hash.proofs.Rotations.{most_by_differences}
use Rattle.tag_hash.proofs.words.U32x4Words.majority.Goals as goal

pub returns : goal.returns
returns c = λ f g h ex ey ez.
    rw (ex, ey, ez) (λ i. four (λ j. most_by_differences (f j) (g j) (h j) i))
