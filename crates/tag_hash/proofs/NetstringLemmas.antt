-- Netstrings are injective, and none begins another.
use Rattle.std.proofs.Common.{◌≡◌, ℕ, ◌+◌, List, [], ◌∷◌, ◌++◌, length, refl, sym, ap, ◌∙◌, arith, length-append}
use Rattle.std.proofs.lemmas.List.{append_assoc}
use Rattle.tag_hash.specs.Decimal.{decimal_text}
use Rattle.tag_hash.specs.Netstring.{netstring}
use Rattle.tag_hash.proofs.Bytes.{same_front, same_digits}
use Rattle.tag_hash.proofs.DecimalLemmas.{decimal_text_digits, decimal_text_injective}

-- a netstring and what follows it, from the front
pub netstring-append : (a r : List ℕ) → netstring a ++ r ≡ decimal_text (length a) ++ 58 ∷ (a ++ 44 ∷ r)
unfolding netstring
netstring-append a r =
    append_assoc (decimal_text (length a)) (58 ∷ (a ++ 44 ∷ [])) r
    ∙ ap (λ t. decimal_text (length a) ++ 58 ∷ t) (append_assoc a (44 ∷ []) r)

pub netstring_parts : (a b r s : List ℕ) → netstring a ++ r ≡ netstring b ++ s → (a ≡ b) × (r ≡ s)
netstring_parts a b r s e =
    let whole = sym (netstring-append a r) ∙ e ∙ netstring-append b s in
    let sizes = same_digits (decimal_text (length a)) (a ++ 44 ∷ r) (decimal_text (length b)) (b ++ 44 ∷ s) (decimal_text_digits (length a)) (decimal_text_digits (length b)) whole in
    let size = decimal_text_injective (length a) (length b) sizes.0 in
    let parts = same_front a (44 ∷ r) b (44 ∷ s) size sizes.1 in
    (parts.0, (same_front (44 ∷ []) r (44 ∷ []) s refl parts.1).1)

pub append_nil : (a : List ℕ) → a ++ [] ≡ a
append_nil [] = refl
append_nil (x ∷ a) = ap (λ t. x ∷ t) (append_nil a)

pub netstring_injective : (a b : List ℕ) → netstring a ≡ netstring b → a ≡ b
netstring_injective a b e = (netstring_parts a b [] [] (append_nil (netstring a) ∙ e ∙ sym (append_nil (netstring b)))).0

pub netstring_begins_none : (a b r : List ℕ) → netstring a ++ r ≡ netstring b → (a ≡ b) × (r ≡ [])
netstring_begins_none a b r e = netstring_parts a b r [] (e ∙ sym (append_nil (netstring b)))

-- how long it is
pub length-netstring : (a : List ℕ) → length (netstring a) ≡ length (decimal_text (length a)) + length a + 2
unfolding netstring
length-netstring a = omega (arith, length-append (decimal_text (length a)) (58 ∷ (a ++ 44 ∷ [])), length-append a (44 ∷ []))
