-- Ids by the numbers at which membership turns.
use Rattle.std.specs.Prelude.{ℕ, suc, zero, ◌^◌, Bool, false, Option, unwrap_or, if◌then◌else◌}
use Rattle.std.specs.Ordering.{nat_cmp}
use Rattle.std.specs.FinSet as set

-- what holds from a number on, up to the next at which something stands
abbrev pub Boundaries : Type 0
Boundaries = ℕ → Option Bool

-- whether a number is among them: what stands at the last turn up to it, and before the first it is not
unfoldable pub is_among : Boundaries → ℕ → Bool
is_among turns zero = unwrap_or (turns zero) false
is_among turns (suc n) = unwrap_or (turns (suc n)) (is_among turns n)

-- whether the number before it is, and before 0 none is; for private clauses
abbrev pub is_before : Boundaries → ℕ → Bool
is_before turns zero = false
is_before turns (suc n) = is_among turns n

-- the numbers below a bound that pass a test
unfoldable pub numbers_below : ℕ → (ℕ → Bool) → set.FinSet nat_cmp
numbers_below zero test = set.empty
numbers_below (suc n) test = if test n then set.insert (numbers_below n test) n else numbers_below n test

-- the ids among them, which have 64 bits
unfoldable pub ids_of : Boundaries → set.FinSet nat_cmp
ids_of turns = numbers_below (2 ^ 64) (is_among turns)
