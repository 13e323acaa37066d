use Rattle.file_shares.specs.Ahead.{AreDecoded}
use Rattle.file_shares.proofs.decoding.decode.Given as goal

abbrev pub invariant-loop-at : goal.invariant-loop-at
invariant-loop-at l = AreDecoded l.params l.shares l.at l.bytes.items
