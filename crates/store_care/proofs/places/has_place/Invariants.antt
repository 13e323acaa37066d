use Rattle.std.proofs.Common.{◌≢◌}
use Rattle.std.specs.List.{AllWithin}
use Rattle.store_care.proofs.places.has_place.Given as goal

-- no place that was looked at is this one
abbrev pub invariant-loop-other : goal.invariant-loop-other
invariant-loop-other l = AllWithin (λ other. other ≢ l.place) l.places 0 l.other-index
