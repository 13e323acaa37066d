use Rattle.std.proofs.Common.{◌≡◌, ◌++◌, length}
use Rattle.chk_file.proofs.reader.gathered.Given as goal

abbrev pub invariant-segments : goal.invariant-segments
invariant-segments l = l.bytes.items ++ l.rest.left ≡ l.fn.download.left

abbrev pub decreases-segments : goal.decreases-segments
decreases-segments l = length l.rest.left
