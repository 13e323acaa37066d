-- Texts with commas between them.
use Rattle.std.proofs.Common.{◌≡◌, ℕ, zero, suc, ◌+◌, ◌<◌, nat_lt, Bool, true, false, List, [], ◌∷◌, ◌++◌, map, take, length, get_or, refl, sym, ap, ◌∙◌, append_assoc, arith}
use Rattle.std.specs.List.{join_with_byte}
use Rattle.std.proofs.lemmas.Bool.{lt-ltb}
use Rattle.std.proofs.lemmas.List.{map_more}
use Rattle.serde_json.specs.Written.{comma_if}
use Rattle.json_view.specs.Listings.{with_commas}
use Rattle.json_view.proofs.Pushed.{three_put}

pub parted_joined : (texts : List (List ℕ)) (end : List ℕ) → with_commas false texts end ≡ join_with_byte 44 texts ++ end
parted_joined [] end = refl
parted_joined (text ∷ []) end = refl
parted_joined (text ∷ second ∷ more) end =
    ap (λ t. text ++ 44 ∷ t) (parted_joined (second ∷ more) end)
    ∙ sym (append_assoc text (44 ∷ join_with_byte 44 (second ∷ more)) end)

some_text : List (List ℕ) → Bool
some_text [] = false
some_text (text ∷ more) = true

joined_more : (texts : List (List ℕ)) (text : List ℕ) → join_with_byte 44 (texts ++ text ∷ []) ≡ join_with_byte 44 texts ++ (comma_if (some_text texts) ++ text)
unfolding some_text
joined_more [] text = refl
joined_more (first ∷ []) text = refl
joined_more (first ∷ second ∷ more) text =
    ap (λ t. first ++ 44 ∷ t) (joined_more (second ∷ more) text)
    ∙ sym (append_assoc first (44 ∷ join_with_byte 44 (second ∷ more)) (44 ∷ text))

some_taken : {X : Type 0} (f : X → List ℕ) (xs : List X) (i : ℕ) → i < length xs → some_text (map f (take i xs)) ≡ nat_lt 0 i
unfolding some_text
some_taken f [] i within = absurd (omega (arith, within))
some_taken f (x ∷ xs) zero within = refl
some_taken f (x ∷ xs) (suc i) within = sym (lt-ltb 0 (suc i) (omega arith))

-- one more text was put, with the comma before it
pub one_more : {X : Type 0} (f : X → List ℕ) (xs : List X) (i : ℕ) (d x : X) (old out middle new : List ℕ) → i < length xs → x ≡ get_or xs i d
    → out ≡ old ++ join_with_byte 44 (map f (take i xs)) → middle ≡ out ++ comma_if (nat_lt 0 i) → new ≡ middle ++ f x
    → new ≡ old ++ join_with_byte 44 (map f (take (i + 1) xs))
one_more f xs i d x old out middle new within is was comma last =
    let ts = map f (take i xs) in
    three_put old _ _ _ out middle new was comma last
    ∙ ap (λ t. old ++ t) (
    ap (λ b. join_with_byte 44 ts ++ (comma_if b ++ f x)) (sym (some_taken f xs i within))
    ∙ sym (joined_more ts (f x))
    ∙ ap (λ t. join_with_byte 44 (ts ++ f t ∷ [])) is
    ∙ ap (join_with_byte 44) (sym (map_more f xs i d within)))
