use Rattle.std.proofs.Common.{◌≡◌, length}
use Rattle.client_link.proofs.lanes.Lanes.new.Given as goal

-- there is a connection for each dialer so far
abbrev pub invariant-loop-dial : goal.invariant-loop-dial
invariant-loop-dial g l = length l.links.items ≡ length l.yielded
