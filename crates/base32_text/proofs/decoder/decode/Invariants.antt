use Rattle.std.proofs.Common.{◌<◌, length}
use Rattle.base32_text.proofs.CodingLemmas.{Taken}
use Rattle.base32_text.proofs.decoder.decode.Given as goal

abbrev pub invariant-loop-place : goal.invariant-loop-place
invariant-loop-place l = Taken l.text l.place l.bytes.items l.waiting × (length l.waiting < 8)
