use Rattle.std.specs.Prelude.{All, Any}
use Rattle.std.specs.Rc.{rc_slice_items}
use Rattle.share_repair.specs.Judged.{IsTheGiven}
use Rattle.share_repair.proofs.choosing.given.Given as goal

-- each that was taken is one of those that were judged
abbrev pub invariant-loop-number : goal.invariant-loop-number
invariant-loop-number l = All (λ g. Any (IsTheGiven g.0 (rc_slice_items g.1)) l.judged) l.given.items
