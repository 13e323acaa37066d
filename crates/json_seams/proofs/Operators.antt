-- A bracket, a colon or a comma is no digit and no other byte, and the lexer takes it for an operator.
use Rattle.std.proofs.Common.{◌≡◌, ℕ, Bool, true, false, cond, ◌||◌, ◌==◌, ◌⊎◌, inl, inr, refl, sym, ap, ◌∙◌}
use Rattle.std.proofs.lemmas.Bool.{true≢false, eqb-true, cases_Bool}
use Rattle.std.specs.Char.{is_ascii_digit, is_digit}
use Rattle.json.specs.Lex.{quote, backslash, operator, space, other, class}
use Rattle.json.specs.Word.{is_operator, is_space}

-- what one byte is and another is not tells them apart
pub apart : (f : ℕ → Bool) (x k : ℕ) → f x ≡ true → f k ≡ false → (x == k) ≡ false
apart f x k is not = go (cases_Bool (x == k))
  where
    go : ((x == k) ≡ true) ⊎ ((x == k) ≡ false) → (x == k) ≡ false
    go (inr e) = e
    go (inl e) = absurd (true≢false (sym is ∙ ap f (eqb-true x k e) ∙ not))

pub apart_from : (f : ℕ → Bool) (x k : ℕ) → f x ≡ true → f k ≡ false → (k == x) ≡ false
apart_from f x k is not = go (cases_Bool (k == x))
  where
    go : ((k == x) ≡ true) ⊎ ((k == x) ≡ false) → (k == x) ≡ false
    go (inr e) = e
    go (inl e) = absurd (true≢false (sym is ∙ sym (ap f (eqb-true k x e)) ∙ not))

either_is_none : (p q y : Bool) → (p ≡ true → y ≡ false) → (q ≡ true → y ≡ false) → (p || q) ≡ true → y ≡ false
either_is_none true q y f g h = f refl
either_is_none false q y f g h = g h

-- what no operator is
none_is : (f : ℕ → Bool) (x : ℕ) → is_operator x ≡ true → f 123 ≡ false → f 125 ≡ false → f 91 ≡ false → f 93 ≡ false → f 58 ≡ false → f 44 ≡ false → f x ≡ false
none_is f x h a b c d e g =
    let at : (k : ℕ) → f k ≡ false → (x == k) ≡ true → f x ≡ false = λ k no is. ap f (eqb-true x k is) ∙ no in
    either_is_none _ (x == 44) (f x)
    (either_is_none _ (x == 58) (f x)
    (either_is_none _ (x == 93) (f x) (either_is_none _ (x == 91) (f x) (either_is_none (x == 123) (x == 125) (f x) (at 123 a) (at 125 b)) (at 91 c)) (at 93 d)) (at 58 e))
    (at 44 g) h

pub no_digit : (x : ℕ) → is_operator x ≡ true → is_ascii_digit x ≡ false
no_digit x h = none_is is_ascii_digit x h refl refl refl refl refl refl

pub no_hex_digit : (x : ℕ) → is_operator x ≡ true → is_digit x 16 ≡ false
no_hex_digit x h = none_is (λ y. is_digit y 16) x h refl refl refl refl refl refl

class_of : (q b o s : Bool) → q ≡ false → b ≡ false → o ≡ true → cond q quote (cond b backslash (cond o operator (cond s space other))) ≡ operator
class_of true b o s e f g = absurd (true≢false e)
class_of false true o s e f g = absurd (true≢false f)
class_of false false true s e f g = refl
class_of false false false s e f g = absurd (true≢false (sym g))

pub class_operator : (x : ℕ) → is_operator x ≡ true → class x ≡ operator
class_operator x h = class_of (x == 34) (x == 92) (is_operator x) (is_space x) (apart is_operator x 34 h refl) (apart is_operator x 92 h refl) h
