-- Elements of a list that are changed one after the other.
use Rattle.std.proofs.Common.{◌≡◌, ◌<◌, ℕ, zero, suc, ◌+◌, List, [], ◌∷◌, ◌++◌, length, map, take, drop, get_or, set, sym, ap, ◌∙◌, add-one, arith}
use Rattle.std.proofs.lemmas.List.{length-append, length-map, take-append-drop}

changed_at : {A : Type 0} (f : A → A) (xs : List A) (place : ℕ) (x : A) → place < length xs → x ≡ get_or (map f (take place xs) ++ drop place xs) place x
    → set (map f (take place xs) ++ drop place xs) place (f x) ≡ map f (take (suc place) xs) ++ drop (suc place) xs
changed_at f [] place x within is = absurd (omega (arith, within))
changed_at f (y ∷ ys) zero x within is = ap (λ z. f z ∷ ys) is
changed_at f (y ∷ ys) (suc place) x within is = ap (λ zs. f y ∷ zs) (changed_at f ys place x (omega (arith, within)) is)

-- the elements in front are changed, and now the next one is
pub changed_next : {A : Type 0} (f : A → A) (xs : List A) (place : ℕ) (x : A) → place < length xs → x ≡ get_or (map f (take place xs) ++ drop place xs) place x
    → set (map f (take place xs) ++ drop place xs) place (f x) ≡ map f (take (place + 1) xs) ++ drop (place + 1) xs
changed_next f xs place x within is = changed_at f xs place x within is ∙ ap (λ n. map f (take n xs) ++ drop n xs) (sym (add-one place))

-- how many there are
pub changed_length : {A : Type 0} (f : A → A) (xs : List A) (place : ℕ) → length (map f (take place xs) ++ drop place xs) ≡ length xs
changed_length f xs place =
    length-append (map f (take place xs)) (drop place xs)
    ∙ ap (λ n. n + length (drop place xs)) (length-map (take place xs) f)
    ∙ sym (length-append (take place xs) (drop place xs))
    ∙ ap length (take-append-drop place xs)
