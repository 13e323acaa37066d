-- Bytes in four parts, and pieces put together.
use Rattle.std.proofs.Common.{◌≡◌, ℕ, ◌+◌, ◌*◌, ◌/◌, List, [], ◌∷◌, ◌++◌, length, take, drop, map, refl, ap, sym, ◌∙◌, arith, Bor, append_assoc}
use Rattle.std.specs.List.{concat}
use Rattle.std.proofs.lemmas.List.{append-nil, drop-drop, take-append-drop}
use Rattle.folder_shelf.specs.Sealed.{four_parts}

twice : (bytes : List ℕ) (n : ℕ) → drop n (drop n bytes) ≡ drop (2 * n) bytes
twice bytes n =
    let both : n + n ≡ 2 * n = omega arith in
    drop-drop n n bytes ∙ ap (λ k. drop k bytes) both

thrice : (bytes : List ℕ) (n : ℕ) → drop n (drop n (drop n bytes)) ≡ drop (3 * n) bytes
thrice bytes n =
    let all : 2 * n + n ≡ 3 * n = omega arith in
    ap (λ rest. drop n rest) (twice bytes n)
    ∙ (drop-drop n (2 * n) bytes ∙ ap (λ k. drop k bytes) all)

-- the parts, as they are cut one after the other
pub cut_in_four : (bytes : List ℕ) (n : ℕ) → n ≡ (length bytes + 3) / 4
    → take n bytes ∷ take n (drop n bytes) ∷ take n (drop n (drop n bytes))
    ∷ drop n (drop n (drop n bytes)) ∷ [] ≡ four_parts bytes
unfolding four_parts
cut_in_four bytes n e = rw (thrice bytes n, twice bytes n, e) refl

put_together : (bytes : List ℕ) (n : ℕ)
    → take n bytes ++ (take n (drop n bytes) ++ (take n (drop n (drop n bytes))
    ++ (drop n (drop n (drop n bytes)) ++ []))) ≡ bytes
put_together bytes n =
    rw (
      append-nil (drop n (drop n (drop n bytes))),
      take-append-drop n (drop n (drop n bytes)),
      take-append-drop n (drop n bytes),
      take-append-drop n bytes,
    ) refl

pub all_parts : (bytes : List ℕ) → concat (four_parts bytes) ≡ bytes
all_parts bytes =
    let quarter = (length bytes + 3) / 4 in
    ap concat (sym (cut_in_four bytes quarter refl)) ∙ put_together bytes quarter

pub four_of_them : (bytes : List ℕ) → length (four_parts bytes) ≡ 4
unfolding four_parts
four_of_them bytes = refl

-- one piece more
pub concat_push : (pieces : List (List ℕ)) (piece : List ℕ)
    → concat (pieces ++ piece ∷ []) ≡ concat pieces ++ piece
concat_push [] piece = append-nil piece
concat_push (first ∷ rest) piece =
    ap (λ t. first ++ t) (concat_push rest piece) ∙ sym (append_assoc first (concat rest) piece)

-- what is made of each, and of what each points to
pub map_now : (f : List ℕ → List ℕ) (parts : List (Bor (List ℕ)))
    → map (λ (part : Bor (List ℕ)). f part.now) parts ≡ map f (map (λ (part : Bor (List ℕ)). part.now) parts)
map_now f [] = refl
map_now f (part ∷ rest) = ap (λ t. f part.now ∷ t) (map_now f rest)
