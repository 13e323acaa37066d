use Rattle.std.proofs.Common.{◌≡◌, ◌++◌, length}
use Rattle.web_replies.proofs.body.made.Given as goal

abbrev pub invariant-loop-all : goal.invariant-loop-all
invariant-loop-all l = l.fn.listing ≡ l.all.items ++ l.left

abbrev pub decreases-loop-all : goal.decreases-loop-all
decreases-loop-all l = length l.left
