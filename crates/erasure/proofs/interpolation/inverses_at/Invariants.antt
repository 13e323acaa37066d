use Rattle.std.proofs.Common.{◌≡◌, ℕ, ◌<◌, length, get_or, slice_index}
use Rattle.gf_field.specs.Field.{inverse_of}
use Rattle.erasure.specs.Blocks.{distance_of}
use Rattle.erasure.proofs.interpolation.inverses_at.Given as goal

abbrev pub invariant-loop-j : goal.invariant-loop-j
invariant-loop-j l = record {
  long : length l.inverses ≡ 256;
  made : (j : ℕ) → j < l.j → get_or l.inverses j 0 ≡ inverse_of (distance_of l.places j (slice_index l.places j));
}
