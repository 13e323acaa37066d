use Rattle.std.proofs.Common.{refl}
use Rattle.base32_text.specs.Bits.{bits_of}
use Rattle.base32_text.proofs.waiting.Waiting.new.Goals as goal

pub returns : goal.returns
unfolding bits_of
returns c = refl
