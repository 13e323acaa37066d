use Rattle.std.proofs.Common.{◌≡◌, ℕ, ◌<◌, length, get_or}
use Rattle.erasure.specs.Code.{place_of}
use Rattle.erasure.proofs.interpolation.places_of_first.Given as goal

abbrev pub invariant-loop-j : goal.invariant-loop-j
invariant-loop-j l = record {
  long : length l.places ≡ 256;
  made : (j : ℕ) → j < l.j → get_or l.places j 0 ≡ place_of j;
}
