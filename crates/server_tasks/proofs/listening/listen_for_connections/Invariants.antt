use Rattle.std.proofs.Common.{◌≡◌, map, take, is_some}
use Rattle.server_tasks.proofs.listening.listen_for_connections.Given as goal

-- a listener for each place so far
abbrev pub invariant-loop-wanted : goal.invariant-loop-wanted
invariant-loop-wanted g l = map (λ listener. is_some listener.secret) l.listeners.items ≡ map (λ wanted. is_some wanted.secret_file) (take l.wanted-index l.wanted-items)
