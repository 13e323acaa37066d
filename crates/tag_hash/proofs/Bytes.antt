-- Lists that begin alike.
use Rattle.std.proofs.Common.{◌≡◌, ℕ, ◌<◌, List, [], ◌∷◌, ◌++◌, length, get_or, refl, sym, ap, subst, arith}
use Rattle.std.specs.Char.{digit_value}
use Rattle.std.specs.Str.Parse.{AllDigits}

abbrev tail : List ℕ → List ℕ
tail [] = []
tail (x ∷ xs) = xs

abbrev head : List ℕ → ℕ
head xs = get_or xs 0 0

-- a front of one length is one front
pub same_front : (a b c d : List ℕ) → length a ≡ length c → a ++ b ≡ c ++ d → (a ≡ c) × (b ≡ d)
same_front [] b [] d long e = (refl, e)
same_front [] b (y ∷ c) d long e = absurd (omega (arith, long))
same_front (x ∷ a) b [] d long e = absurd (omega (arith, long))
same_front (x ∷ a) b (y ∷ c) d long e =
    let one : x ≡ y = ap head e in
    let more = same_front a b c d (omega (arith, long)) (ap tail e) in
    ((λ i. one i ∷ more.0 i), more.1)

no_digit : (c : ℕ) → 58 ≡ c → digit_value c < 10 → {P : Type 0} → P
no_digit c colon digit = let wrong : digit_value 58 < 10 = subst (λ v. digit_value v < 10) (sym colon) digit in absurd (omega (arith, wrong))

-- digits end at a colon
pub same_digits : (a b c d : List ℕ) → AllDigits 10 a → AllDigits 10 c → a ++ 58 ∷ b ≡ c ++ 58 ∷ d → (a ≡ c) × (b ≡ d)
same_digits [] b [] d mine theirs e = (refl, ap tail e)
same_digits [] b (y ∷ c) d mine theirs e = no_digit y (ap head e) theirs.0
same_digits (x ∷ a) b [] d mine theirs e = no_digit x (sym (ap head e)) mine.0
same_digits (x ∷ a) b (y ∷ c) d mine theirs e =
    let one : x ≡ y = ap head e in
    let more = same_digits a b c d mine.1 theirs.1 (ap tail e) in
    ((λ i. one i ∷ more.0 i), more.1)
