use Rattle.std.proofs.Common.{◌≡◌, ◌++◌}
use Rattle.std.specs.List.{concat}
use Rattle.erasure.specs.Given.{blocks_of}
use Rattle.erasure.proofs.Coding.{places_of, first_blocks}
use Rattle.erasure.proofs.known.Known.push_each.Given as goal

abbrev pub invariant-loop-j : goal.invariant-loop-j
invariant-loop-j l = l.bytes.items ≡ l.initial.bytes.items ++ concat (first_blocks (places_of l.self) (blocks_of l.self) l.j)
