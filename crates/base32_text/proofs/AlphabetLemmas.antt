-- Letters and what they stand for.
use Rattle.std.proofs.Common.{◌≡◌, ℕ, zero, suc, ◌<◌, true, List, [], ◌∷◌, length, map, get_or, refl, arith}
use Rattle.std.specs.List.{All, AllByRecursion}
use Rattle.std.proofs.lemmas.Bool.Decides.{nat_tests}
use Rattle.base32_text.specs.Alphabet.{is_letter, value_of, letter_of}

pub all_parts : (P : ℕ → Type 0) (xs : List ℕ) → All P xs → AllByRecursion P xs
all_parts P [] h = tt
all_parts P (x ∷ xs) h = (h 0 x (omega arith), all_parts P xs (λ k d l. h (suc k) d (omega arith)))

pub all_from : (P : ℕ → Type 0) (xs : List ℕ) → AllByRecursion P xs → (k d : ℕ) → k < length xs → P (get_or xs k d)
all_from P [] h k d l = absurd (omega arith)
all_from P (x ∷ xs) h zero d l = h.0
all_from P (x ∷ xs) h (suc k) d l = all_from P xs h.1 k d (omega arith)

pub value_of-lt : (byte : ℕ) → is_letter byte ≡ true → value_of byte < 32
value_of-lt byte h = grind (arith, nat_tests)

pub letter_of-value_of : (byte : ℕ) → is_letter byte ≡ true → letter_of (value_of byte) ≡ byte
letter_of-value_of byte h = grind (arith, nat_tests)

pub value_of-letter_of : (value : ℕ) → value < 32 → value_of (letter_of value) ≡ value
value_of-letter_of value h = grind (arith, nat_tests)

pub is_letter-letter_of : (value : ℕ) → value < 32 → is_letter (letter_of value) ≡ true
is_letter-letter_of value h = grind (arith, nat_tests)

abbrev pub AreLetters : List ℕ → Type 0
AreLetters text = AllByRecursion (λ byte. is_letter byte ≡ true) text

pub values_small : (text : List ℕ) → AreLetters text → AllByRecursion (λ value. value < 32) (map value_of text)
values_small [] h = tt
values_small (x ∷ xs) h = (value_of-lt x h.0, values_small xs h.1)

pub letters-values : (text : List ℕ) → AreLetters text → map letter_of (map value_of text) ≡ text
letters-values [] h = refl
letters-values (x ∷ xs) h = rw (letter_of-value_of x h.0, letters-values xs h.1) refl

pub values-letters : (values : List ℕ) → AllByRecursion (λ value. value < 32) values → map value_of (map letter_of values) ≡ values
values-letters [] h = refl
values-letters (x ∷ xs) h = rw (value_of-letter_of x h.0, values-letters xs h.1) refl

pub are_letters : (values : List ℕ) → AllByRecursion (λ value. value < 32) values → AreLetters (map letter_of values)
are_letters [] h = tt
are_letters (x ∷ xs) h = (is_letter-letter_of x h.0, are_letters xs h.1)
