use Rattle.std.proofs.Common.{◌≡◌, ◌++◌, map, take, drop}
use Rattle.ask_desk.specs.Asks.{disowned}
use Rattle.ask_desk.proofs.desk.disown.Given as goal

-- those in front are done
abbrev pub invariant-loop-place : goal.invariant-loop-place
invariant-loop-place l = l.asks.items ≡ map (disowned l.owner) (take l.place l.fn.asks.items) ++ drop l.place l.fn.asks.items
