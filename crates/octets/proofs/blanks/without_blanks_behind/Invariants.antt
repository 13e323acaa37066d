use Rattle.std.proofs.Common.{◌≡◌, length, reverse}
use Rattle.httparse.specs.Grammar.{skip_ows}
use Rattle.octets.proofs.blanks.without_blanks_behind.Given as goal

abbrev pub invariant-loop-byte : goal.invariant-loop-byte
invariant-loop-byte l = skip_ows (reverse l.rest) ≡ skip_ows (reverse l.value)

abbrev pub decreases-loop-byte : goal.decreases-loop-byte
decreases-loop-byte l = length l.rest
