use Rattle.std.proofs.Common.{map, take}
use Rattle.std.specs.Prelude.{All}
use Rattle.std.specs.Rc.{rc_slice_items}
use Rattle.share_repair.specs.Repaired.{IsOne}
use Rattle.share_repair.proofs.making.are_among.Given as goal

abbrev pub invariant-loop-number : goal.invariant-loop-number
invariant-loop-number l = All (λ g. IsOne (map (λ share. share.items) l.made) g.0 (rc_slice_items g.1)) (take l.number-index l.given)
