use Rattle.std.proofs.Common.{◌≡◌, ◌-◌, deque_len}
use Rattle.client_tree.specs.UnderWay.{StaysInHand}
use Rattle.client_tree.proofs.window.Window.settle_all.Given as goal

-- one less is on its way after each turn
abbrev pub invariant-loop : goal.invariant-loop
invariant-loop g l =
    StaysInHand l.fn.self.children.items l.fn.self.waiting.items l.self.children.items l.self.waiting.items
    × (deque_len l.self.waiting ≡ deque_len l.fn.self.waiting - l.counter)
