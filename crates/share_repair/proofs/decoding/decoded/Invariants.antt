use Rattle.std.proofs.Common.{◌≡◌, ◌<◌, List, ℕ, map, take}
use Rattle.std.specs.List.{concat}
use Rattle.erasure.specs.Given.{AreDistinct}
use Rattle.share_codec.specs.Segments.{segments}
use Rattle.share_repair.specs.Decoded.{AreGoodOf}
use Rattle.share_repair.proofs.decoding.decoded.Given as goal

abbrev pub invariant-loop-at : goal.invariant-loop-at
invariant-loop-at l = record {
  bytes : (crypttext : List ℕ) → AreGoodOf l.params crypttext l.shares → l.bytes.items ≡ concat (take l.at (segments l.params crypttext));
  apart : 0 < l.at → AreDistinct (map (λ share. share.number) l.shares);
}
