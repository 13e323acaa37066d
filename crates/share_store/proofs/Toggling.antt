-- What changed bits do to bytes.
use Rattle.std.proofs.Common.{◌≡◌, ℕ, zero, suc, List, [], ◌∷◌, length, refl, ap, ◌∙◌, length-set}
use Rattle.std.specs.Int.Bits.{bit_xor, xor_assoc, xor_self, xor_zero_r}
use Rattle.share_store.specs.Toggle.{toggled}

bit_twice : (x : ℕ) → bit_xor (bit_xor x 1) 1 ≡ x
bit_twice x = xor_assoc x 1 1 ∙ ap (bit_xor x) (xor_self 1) ∙ xor_zero_r x

pub toggled-toggled : (bytes : List ℕ) (place : ℕ) → toggled (toggled bytes place) place ≡ bytes
toggled-toggled [] place = refl
toggled-toggled (x ∷ xs) zero = ap (λ y. y ∷ xs) (bit_twice x)
toggled-toggled (x ∷ xs) (suc place) = ap (λ ys. x ∷ ys) (toggled-toggled xs place)

pub toggled-commutes : (bytes : List ℕ) (p q : ℕ) → toggled (toggled bytes p) q ≡ toggled (toggled bytes q) p
toggled-commutes [] p q = refl
toggled-commutes (x ∷ xs) zero zero = refl
toggled-commutes (x ∷ xs) zero (suc q) = refl
toggled-commutes (x ∷ xs) (suc p) zero = refl
toggled-commutes (x ∷ xs) (suc p) (suc q) = ap (λ ys. x ∷ ys) (toggled-commutes xs p q)

pub length-toggled : (bytes : List ℕ) (place : ℕ) → length (toggled bytes place) ≡ length bytes
length-toggled bytes place = length-set bytes place _
