use Rattle.std.proofs.Common.{◌<◌, ◌⊎◌, ℕ, All, Contains}
use Rattle.store_care.specs.Places.{IsWithout}
use Rattle.store_care.proofs.places.missing_places.Given as goal

-- what was found missing is so, and each place before this one was seen or found missing
abbrev pub invariant-loop-place : goal.invariant-loop-place
invariant-loop-place l =
    All (λ place. (place < l.servers) × IsWithout l.places place) l.missing.items
    × ((place : ℕ) → place < l.place → Contains l.places place ⊎ Contains l.missing.items place)
