use Rattle.tag_hash.specs.Lanes.{eight}
use Rattle.tag_hash.proofs.Rotations.{most_by_differences}
use Rattle.tag_hash.proofs.words.U32x8Words.majority.Goals as goal

pub returns : goal.returns
returns c = λ f g h ex ey ez.
    rw (ex, ey, ez) (λ i. eight (λ j. most_by_differences (f j) (g j) (h j) i))
