use Rattle.std.proofs.Common.{◌≡◌, map}
use Rattle.std.specs.Rc.{rc_slice_items}
use Rattle.file_shares.proofs.encode.shared.Given as goal

abbrev pub invariant-loop-share : goal.invariant-loop-share
invariant-loop-share l = map rc_slice_items l.lent.items ≡ map (λ share. share.items) l.yielded
