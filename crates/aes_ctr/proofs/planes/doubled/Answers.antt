use Rattle.std.proofs.Common.{◌+◌, ◌*◌, ◌/◌, ◌%◌}
use Rattle.aes_ctr.specs.Planes.{byte_in, doubled, plane_vectors}
use Rattle.aes_ctr.proofs.MixLemmas.{double_slices}
use Rattle.aes_ctr.proofs.planes.doubled.Goals as goal

pub returns : goal.returns
unfolding doubled
returns c = λ s low ex. rw ex (λ i. plane_vectors 8 (λ k. double_slices (byte_in s k) (λ j. low (j + 8 * (k / 16)) (k % 16)) i))
