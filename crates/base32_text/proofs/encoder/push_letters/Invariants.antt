use Rattle.std.proofs.Common.{◌<◌, length, take, string_bytes}
use Rattle.base32_text.specs.Bits.{joined}
use Rattle.base32_text.proofs.CodingLemmas.{Written}
use Rattle.base32_text.proofs.encoder.push_letters.Given as goal

abbrev pub invariant-loop-byte : goal.invariant-loop-byte
invariant-loop-byte l =
    Written (string_bytes l.fn.text) (string_bytes l.text) l.waiting (joined 8 (take l.byte-index l.bytes)) × (length l.waiting < 5)
