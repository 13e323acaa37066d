use Rattle.std.proofs.Common.{◌≡◌, ℕ, Vec, Global, map, take}
use Rattle.erasure.specs.Given.{contents_of}
use Rattle.file_shares.proofs.encoder.lent.Given as goal

abbrev pub invariant-loop-segment : goal.invariant-loop-segment
invariant-loop-segment l = contents_of l.lent.items ≡ map (λ (segment : Vec ℕ Global). segment.items) (take l.segment-index l.segments)
