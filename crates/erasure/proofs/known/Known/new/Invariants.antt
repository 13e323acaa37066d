use Rattle.std.proofs.Common.{◌≡◌, take}
use Rattle.erasure.specs.Given.{contents_of, numbered_of, blocks_of}
use Rattle.erasure.proofs.Coding.{places_of}
use Rattle.erasure.proofs.known.Known.new.Given as goal

abbrev pub invariant-loop-number : goal.invariant-loop-number
invariant-loop-number l = record {
  placed : l.places.items ≡ places_of (numbered_of (take l.number-index l.given));
  known : contents_of l.contents.items ≡ blocks_of (numbered_of (take l.number-index l.given));
}
