use Rattle.std.proofs.Common.{refl}
use Rattle.aes_ctr.specs.Planes.{byte_of, sliced, place}
use Rattle.aes_ctr.proofs.keystream.places.Goals as goal

pub returns : goal.returns
unfolding byte_of sliced place
returns c = rw (c.last_byte.ensures, c.last_byte-2.ensures, c.last_byte-3.ensures) refl
