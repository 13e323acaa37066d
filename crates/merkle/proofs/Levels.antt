-- The height of so many leaves is the least at which they fit.
use Rattle.std.proofs.Common.{◌≡◌, ℕ, zero, suc, ◌+◌, ◌-◌, ◌*◌, ◌%◌, ◌^◌, ◌<◌, ◌≤◌, ◌≢◌, Bool, true, false, refl, sym, ap, subst, ◌∙◌, arith}
use Rattle.std.specs.Prelude.{nat_lt, if◌then◌else◌}
use Rattle.std.proofs.lemmas.Bool.Decides.{nat_tests}
use Rattle.std.proofs.lemmas.Nat.{pow_below}
use Rattle.std.proofs.Math.Nat.{pow-succ'}
use Rattle.merkle.specs.Height.{height}

pub true_or_false : (b : Bool) (P : Type 0) → (b ≡ true → P) → (b ≡ false → P) → P
true_or_false true P first second = first refl
true_or_false false P first second = second refl

pub below_is : (a b : ℕ) → nat_lt a b ≡ true → a < b
below_is a b test = grind (arith, nat_tests)

pub not_below_is : (a b : ℕ) → nat_lt a b ≡ false → b ≤ a
not_below_is a b test = grind (arith, nat_tests)

pub below : (a b : ℕ) → a < b → nat_lt a b ≡ true
below a b less = grind (arith, nat_tests)

pub not_below : (a b : ℕ) → b ≤ a → nat_lt a b ≡ false
not_below a b more = grind (arith, nat_tests)

pub double : (h : ℕ) → 2 ^ suc h ≡ 2 ^ h + 2 ^ h
double h = let twice = pow-succ' 2 h in omega arith

pub pow_positive : (h : ℕ) → 0 < 2 ^ h
pow_positive zero = omega arith
pow_positive (suc h) = let one = pow_positive h in let two = double h in omega arith

pub pow_next : (h : ℕ) → 2 ^ (h + 1) ≡ 2 ^ h + 2 ^ h
pow_next h = ap (λ n. 2 ^ n) (let e : h + 1 ≡ suc h = omega arith in e) ∙ double h

height-suc : (n : ℕ) → height (suc n) ≡ (if nat_lt (2 ^ height n) (suc n) then height n + 1 else height n)
unfolding height
height-suc n = refl

higher : (n : ℕ) → nat_lt (2 ^ height n) (suc n) ≡ true → height (suc n) ≡ height n + 1
higher n test = height-suc n ∙ ap (λ b. if b then height n + 1 else height n) test

as_high : (n : ℕ) → nat_lt (2 ^ height n) (suc n) ≡ false → height (suc n) ≡ height n
as_high n test = height-suc n ∙ ap (λ b. if b then height n + 1 else height n) test

height-zero : height 0 ≡ 0
unfolding height
height-zero = refl

pub height_fits : (n : ℕ) → n ≤ 2 ^ height n
height_fits zero = omega arith
height_fits (suc n) = true_or_false (nat_lt (2 ^ height n) (suc n)) _
    (λ test. subst (λ h. suc n ≤ 2 ^ h) (sym (higher n test)) (let fits = height_fits n in let some = pow_positive (height n) in let twice = pow_next (height n) in omega arith))
    (λ test. subst (λ h. suc n ≤ 2 ^ h) (sym (as_high n test)) (not_below_is (2 ^ height n) (suc n) test))

pow_lt_is : (a b : ℕ) → 2 ^ a < 2 ^ b → a < b
pow_lt_is a b less = true_or_false (nat_lt a b) _ (λ test. below_is a b test) (λ test. large (not_below_is a b test))
  where
    same : a ≡ b → a < b
    same e = absurd (let equal : 2 ^ a ≡ 2 ^ b = ap (λ n. 2 ^ n) e in omega arith)

    large : b ≤ a → a < b
    large more = true_or_false (nat_lt b a) _ (λ test. absurd (let other = pow_below b a (below_is b a test) in omega arith)) (λ test. same (let few = not_below_is b a test in omega arith))

pub height_least : (n h : ℕ) → n ≤ 2 ^ h → height n ≤ h
height_least zero h fits = subst (λ k. k ≤ h) (sym height-zero) (omega arith)
height_least (suc n) h fits = true_or_false (nat_lt (2 ^ height n) (suc n)) _
    (λ test. subst (λ k. k ≤ h) (sym (higher n test)) (let less = pow_lt_is (height n) h (let short = below_is (2 ^ height n) (suc n) test in omega arith) in omega arith))
    (λ test. subst (λ k. k ≤ h) (sym (as_high n test)) (height_least n h (omega arith)))

pub height_is : (n h : ℕ) → n ≤ 2 ^ h → ((k : ℕ) → k < h → 2 ^ k < n) → height n ≡ h
height_is n h fits short = true_or_false (nat_lt (height n) h) _
    (λ test. absurd (let over = short (height n) (below_is (height n) h test) in let under = height_fits n in omega arith))
    (λ test. let least = height_least n h fits in let most = not_below_is (height n) h test in omega arith)

-- a shifted one, in 64 bits
pub shifted : (h : ℕ) → h < 64 → (1 * 2 ^ h) % 18446744073709551616 ≡ 2 ^ h
shifted h small = let room : 2 ^ h < 18446744073709551616 = pow_below h 64 small in omega arith

-- a subtree in 64 bits is at most 64 levels high
pub low : (h : ℕ) → 2 ^ h ≤ 18446744073709551616 → h ≤ 64
low h room = true_or_false (nat_lt 64 h) _
    (λ test. absurd (let over = pow_below 64 h (below_is 64 h test) in omega arith))
    (λ test. not_below_is 64 h test)

pub pow_monotone : (a b : ℕ) → a ≤ b → 2 ^ a ≤ 2 ^ b
pow_monotone a b most = true_or_false (nat_lt a b) _
    (λ test. let less = pow_below a b (below_is a b test) in omega arith)
    (λ test. let same : a ≡ b = let more = not_below_is a b test in omega arith in let e : 2 ^ a ≡ 2 ^ b = ap (λ n. 2 ^ n) same in omega arith)

-- the halves of a subtree that is no leaf
pub half_room : (h : ℕ) → h ≢ 0 → 2 ^ h ≡ 2 ^ (h - 1) + 2 ^ (h - 1)
half_room zero some = absurd (some refl)
half_room (suc h) some = double h ∙ (let e : h ≡ suc h - 1 = omega arith in λ i. 2 ^ e i + 2 ^ e i)
