use Rattle.std.proofs.Common.{◌≡◌, ◌+◌, ◌-◌, length}
use Rattle.std.specs.Prelude.{All}
use Rattle.file_shares.proofs.readings.make_rows.Given as goal

abbrev pub invariant-loop-hashed : goal.invariant-loop-hashed
invariant-loop-hashed l = All (λ row. All (λ held. held.1.params ≡ l.params) row.items) l.hashed.items

abbrev pub decreases-loop-hashed : goal.decreases-loop-hashed
decreases-loop-hashed l = l.number + 1 - length l.hashed.items
