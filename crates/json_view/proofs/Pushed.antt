-- Pieces that were put after one another.
use Rattle.std.proofs.Common.{◌≡◌, ℕ, List, [], ◌++◌, sym, ap, ◌∙◌, append_assoc, append-nil}

pub last_put : (old a new : List ℕ) → new ≡ old ++ a → new ≡ old ++ (a ++ [])
last_put old a new one = one ∙ ap (λ t. old ++ t) (sym (append-nil a))

pub two_put : (old a b x new : List ℕ) → x ≡ old ++ a → new ≡ x ++ b → new ≡ old ++ (a ++ b)
two_put old a b x new one two = two ∙ ap (λ t. t ++ b) one ∙ append_assoc old a b

pub three_put : (old a b c x y new : List ℕ) → x ≡ old ++ a → y ≡ x ++ b → new ≡ y ++ c → new ≡ old ++ (a ++ (b ++ c))
three_put old a b c x y new one two three = two_put old a (b ++ c) x new one (two_put x b c y new two three)

pub four_put : (old a b c d x y z new : List ℕ) → x ≡ old ++ a → y ≡ x ++ b → z ≡ y ++ c → new ≡ z ++ d → new ≡ old ++ (a ++ (b ++ (c ++ d)))
four_put old a b c d x y z new one two three four = two_put old a (b ++ (c ++ d)) x new one (three_put x b c d y z new two three four)
