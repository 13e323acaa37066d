use Rattle.std.proofs.Common.{◌≡◌, ◌≤◌, ◌-◌, length, take, drop, IfSome, Some, vec_len}
use Rattle.grid.proofs.image_reader.read_bytes.Given as goal

-- so many bytes came
abbrev pub invariant-loop-bytes : goal.invariant-loop-bytes
invariant-loop-bytes g l = record {
  within : vec_len l.bytes ≤ l.count;
  told : IfSome (g.R.Read.remaining l.fn.reader) (λ left. (vec_len l.bytes ≤ length left) × (l.bytes.items ≡ take (vec_len l.bytes) left) × (g.R.Read.remaining l.reader ≡ Some (drop (vec_len l.bytes) left)));
}

abbrev pub decreases-loop-bytes : goal.decreases-loop-bytes
decreases-loop-bytes g l = l.count - vec_len l.bytes
