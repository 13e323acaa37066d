-- Finitely many uses collide or they don't, and where they do two of them are found.
use Rattle.std.proofs.Common.{◌≡◌, ◌≢◌, ◌⊎◌, inl, inr, ⊎_elim, ℕ, List, [], ◌∷◌, Bool, true, false, refl, subst}
use Rattle.std.specs.Prelude.{Contains, nat_eq}
use Rattle.std.specs.Cmp.Lexicographic.{same_text, other_text, pointwise}
use Rattle.std.proofs.lemmas.Bool.{cases_eq}
use Rattle.tag_hash.specs.Use.{Use, digest}
use Rattle.tag_hash.specs.Collisions.{NoCollision}
use Rattle.chk_file.specs.Collide.{Collide}
use Rattle.cap_binding.specs.Found.{HasCollision}
use Rattle.cap_binding.proofs.Members.{Contains-here, Contains-there, Contains-cons_cases, none_in_nothing}

true_or_false : (b : Bool) (P : Type 0) → (true ≡ b → P) → (false ≡ b → P) → P
true_or_false true P first second = first refl
true_or_false false P first second = second refl

pub same_or_other : (a b : List ℕ) → (a ≡ b) ⊎ (a ≢ b)
same_or_other a b = true_or_false (pointwise nat_eq a b) ((a ≡ b) ⊎ (a ≢ b)) (λ e. inl (same_text a b e)) (λ e. inr (other_text a b e))

-- these two don't collide
abbrev Apart : Use → Use → Type 0
Apart a b = a.size ≡ b.size → digest a ≡ digest b → a.text ≡ b.text

with_texts : (a b : Use) → a.size ≡ b.size → digest a ≡ digest b → (a.text ≡ b.text) ⊎ (a.text ≢ b.text) → Apart a b ⊎ Collide a b
with_texts a b size same = λ texts. ⊎_elim (λ e. inl (λ _ _. e)) (λ differ. inr (record { strings = differ; sizes = size; digests = same })) texts

with_digests : (a b : Use) → a.size ≡ b.size → (digest a ≡ digest b) ⊎ (digest a ≢ digest b) → Apart a b ⊎ Collide a b
with_digests a b size = λ digests.
    ⊎_elim (λ e. with_texts a b size e (same_or_other a.text b.text)) (λ differ. inl (λ _ e. absurd (differ e))) digests

apart_or_not : (a b : Use) → Apart a b ⊎ Collide a b
apart_or_not a b =
    ⊎_elim (λ e. with_digests a b e (same_or_other (digest a) (digest b))) (λ differ. inl (λ e _. absurd (differ e))) (cases_eq a.size b.size)

-- one against each of these
abbrev Among : Use → List Use → Type 0
Among a xs = ((b : Use) → Contains xs b → Apart a b) ⊎ ((b : Use) × Contains xs b × Collide a b)

among : (a : Use) (xs : List Use) → Among a xs
among a [] = inl (λ b there. absurd (none_in_nothing b there))
among a (x ∷ xs) =
    ⊎_elim
    (λ (fine : Apart a x). ⊎_elim
    (λ (rest : (b : Use) → Contains xs b → Apart a b). inl (λ b there. ⊎_elim (λ more. rest b more) (λ same. subst (Apart a) same fine) (Contains-cons_cases x xs b there)))
    (λ (found : (b : Use) × Contains xs b × Collide a b). inr (found.0, Contains-there x xs found.0 found.1, found.2))
    (among a xs))
    (λ (bad : Collide a x). inr (x, Contains-here x xs, bad))
    (apart_or_not a x)

-- each of these against each of those
abbrev Between : List Use → List Use → Type 0
Between xs ys = ((a b : Use) → Contains xs a → Contains ys b → Apart a b) ⊎ ((a : Use) × (b : Use) × Contains xs a × Contains ys b × Collide a b)

between : (xs ys : List Use) → Between xs ys
between [] ys = inl (λ a b there _. absurd (none_in_nothing a there))
between (x ∷ xs) ys =
    ⊎_elim
    (λ (fine : (b : Use) → Contains ys b → Apart x b). ⊎_elim
    (λ (rest : (a b : Use) → Contains xs a → Contains ys b → Apart a b).
    inl (λ a b there here. ⊎_elim (λ more. rest a b more here) (λ same. subst (λ (z : Use). Apart z b) same (fine b here)) (Contains-cons_cases x xs a there)))
    (λ (found : (a : Use) × (b : Use) × Contains xs a × Contains ys b × Collide a b). inr (found.0, found.1, Contains-there x xs found.0 found.2, found.3, found.4))
    (between xs ys))
    (λ (bad : (b : Use) × Contains ys b × Collide x b). inr (x, bad.0, Contains-here x xs, bad.1, bad.2))
    (among x ys)

-- the two are found, or there are none
pub collision_or_none : (uses : List Use) → NoCollision uses ⊎ HasCollision uses
collision_or_none uses =
    ⊎_elim
    (λ (fine : (a b : Use) → Contains uses a → Contains uses b → Apart a b). inl fine)
    (λ (found : (a : Use) × (b : Use) × Contains uses a × Contains uses b × Collide a b). inr (record { one = found.0; other = found.1; first = found.2; second = found.3; collide = found.4 }))
    (between uses uses)
