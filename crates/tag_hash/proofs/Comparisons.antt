-- Tests on numbers that come out one way.
use Rattle.std.proofs.Common.{◌≡◌, ℕ, ◌<◌, ◌≤◌, Bool, true, false, refl, arith}
use Rattle.std.specs.Prelude.{◌==◌, ◌≢◌, ◌&&◌, nat_lt}
use Rattle.std.proofs.lemmas.Bool.Decides.{nat_tests}

pub true_or_false : (b : Bool) (P : Type 0) → (b ≡ true → P) → (b ≡ false → P) → P
true_or_false true P first second = first refl
true_or_false false P first second = second refl

pub equal : (a b : ℕ) → a ≡ b → (a == b) ≡ true
equal a b same = grind (arith, nat_tests)

pub unequal : (a b : ℕ) → a ≢ b → (a == b) ≡ false
unequal a b other = grind (arith, nat_tests)

pub equal_is : (a b : ℕ) → (a == b) ≡ true → a ≡ b
equal_is a b test = grind (arith, nat_tests)

pub unequal_is : (a b : ℕ) → (a == b) ≡ false → a ≢ b
unequal_is a b test = grind (arith, nat_tests)

pub below : (a b : ℕ) → a < b → nat_lt a b ≡ true
below a b less = grind (arith, nat_tests)

pub not_below : (a b : ℕ) → b ≤ a → nat_lt a b ≡ false
not_below a b more = grind (arith, nat_tests)

pub below_is : (a b : ℕ) → nat_lt a b ≡ true → a < b
below_is a b test = grind (arith, nat_tests)

pub not_below_is : (a b : ℕ) → nat_lt a b ≡ false → b ≤ a
not_below_is a b test = grind (arith, nat_tests)

pub both : (a b : Bool) → a ≡ true → b ≡ true → (a && b) ≡ true
both true b first second = second
both false b first second = first

pub not_first : (a b : Bool) → a ≡ false → (a && b) ≡ false
not_first true b first = cc
not_first false b first = refl

pub not_second : (a b : Bool) → b ≡ false → (a && b) ≡ false
not_second true b second = second
not_second false b second = refl
