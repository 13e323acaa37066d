use Rattle.std.proofs.Common.{◌≡◌, ◌-◌}
use Rattle.resp.specs.Reading.{all_at, item_at}
use Rattle.resp.proofs.Loops.{with_front}
use Rattle.resp.proofs.replies.all_items.Given as goal

abbrev pub invariant-loop : goal.invariant-loop
invariant-loop l = with_front l.items.items (all_at (item_at l.limits) (l.fn.count - l.counter) l.rest) ≡ all_at (item_at l.limits) l.fn.count l.fn.bytes
