-- Parts lie within the file.
use Rattle.std.proofs.Common.{◌≡◌, ℕ, ◌-◌, ◌<◌, ◌≤◌, Bool, true, false, cond, Option, Some, None, min, refl, arith}
use Rattle.std.specs.Prelude.{nat_lt, nat_le, ◌==◌}
use Rattle.std.proofs.lemmas.Bool.Decides.{nat_tests}
use Rattle.range_view.specs.Asked.{Asked, FromTo, From, Last}
use Rattle.range_view.specs.Resolved.{resolved_range}
use Rattle.range_view.specs.declared.range.Resolved.TheVariants.{Whole, Part, Unsatisfiable}

above : (n m : ℕ) → nat_le n m ≡ false → m < n
above n m h = grind (arith, nat_tests)

not_below : (n m : ℕ) → nat_lt n m ≡ false → m ≤ n
not_below n m h = grind (arith, nat_tests)

not_zero : (n : ℕ) → (n == 0) ≡ false → 0 < n
not_zero n h = grind (arith, nat_tests)

pub within : (asked : Option Asked) (size from to : ℕ) → resolved_range asked size ≡ Part from to → (from ≤ to) × (to < size)
within None size from to e = absurd (cc)
within (Some (FromTo first last)) size from to e = go (nat_lt last first) (nat_le size first) refl refl e
  where
    go : (t u : Bool) → nat_lt last first ≡ t → nat_le size first ≡ u
        → cond t Whole (cond u Unsatisfiable (Part first (min last (size - 1)))) ≡ Part from to → (from ≤ to) × (to < size)
    go true u a b f = absurd (cc)
    go false true a b f = absurd (cc)
    go false false a b f =
        let begins : first ≡ from = cc in
        let ends : min last (size - 1) ≡ to = cc in
        (omega (arith, not_below last first a, above size first b), omega (arith, above size first b))
within (Some (From first)) size from to e = go (nat_le size first) refl e
  where
    go : (u : Bool) → nat_le size first ≡ u → cond u Unsatisfiable (Part first (size - 1)) ≡ Part from to → (from ≤ to) × (to < size)
    go true b f = absurd (cc)
    go false b f =
        let begins : first ≡ from = cc in
        let ends : size - 1 ≡ to = cc in
        (omega (arith, above size first b), omega (arith, above size first b))
within (Some (Last count)) size from to e = go (count == 0) (size == 0) refl refl e
  where
    go : (t u : Bool) → (count == 0) ≡ t → (size == 0) ≡ u
        → cond t Unsatisfiable (cond u Whole (Part (size - min count size) (size - 1))) ≡ Part from to → (from ≤ to) × (to < size)
    go true u a b f = absurd (cc)
    go false true a b f = absurd (cc)
    go false false a b f =
        let begins : size - min count size ≡ from = cc in
        let ends : size - 1 ≡ to = cc in
        (omega (arith, not_zero count a, not_zero size b), omega (arith, not_zero size b))
