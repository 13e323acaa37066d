-- Polynomials over the field: sums, roots, and that one of degree below k is known by its values at k places.
use Rattle.std.proofs.Common.{◌≡◌, ◌≢◌, ℕ, zero, suc, ◌<◌, ◌≤◌, max, List, [], ◌∷◌, length, get_or, All, AllPairs, refl, sym, ap, ◌∙◌, arith}
use Rattle.std.specs.Int.Bits.{bit_xor, xor_self, xor_zero_r}
use Rattle.std.proofs.lemmas.Nat.{xor_comm, xor_of_8}
use Rattle.std.proofs.lemmas.List.Elements.{All-nil, All-cons, All-head, All-tail}
use Rattle.gf_field.specs.Field.{mul_of}
use Rattle.gf_field.proofs.Bits.{xor_middle}
use Rattle.gf_field.proofs.Field.{mul_of-xor_left, mul_of-xor_right, mul_of-zero_right, mul_of-lt}
use Rattle.erasure.specs.Polynomial.{value_at}
use Rattle.erasure.specs.Code.{AreBytes}
use Rattle.erasure.proofs.Sums.{xor_cancel_left, xor_same, xor_apart, mul_of_left_comm, no_zero_product}

abbrev IsByte : ℕ → Type 0
IsByte c = c < 256

pub value_lt : (cs : List ℕ) (x : ℕ) → AreBytes cs → value_at cs x < 256
value_lt [] x h = omega arith
value_lt (c ∷ cs) x h = xor_of_8 c (mul_of x (value_at cs x)) (All-head IsByte c cs h) (mul_of-lt x (value_at cs x))

-- ---- the sum of two
abbrev pub plus : List ℕ → List ℕ → List ℕ
plus [] ds = ds
plus (c ∷ cs) [] = c ∷ cs
plus (c ∷ cs) (d ∷ ds) = bit_xor c d ∷ plus cs ds

pub value-plus : (cs ds : List ℕ) (x : ℕ) → value_at (plus cs ds) x ≡ bit_xor (value_at cs x) (value_at ds x)
value-plus [] ds x = refl
value-plus (c ∷ cs) [] x = sym (xor_zero_r (bit_xor c (mul_of x (value_at cs x))))
value-plus (c ∷ cs) (d ∷ ds) x =
    ap (λ (y : ℕ). bit_xor (bit_xor c d) (mul_of x y)) (value-plus cs ds x)
    ∙ ap (bit_xor (bit_xor c d)) (mul_of-xor_right x (value_at cs x) (value_at ds x))
    ∙ xor_middle c d (mul_of x (value_at cs x)) (mul_of x (value_at ds x))

pub length-plus : (cs ds : List ℕ) → length (plus cs ds) ≡ max (length cs) (length ds)
length-plus [] ds = omega arith
length-plus (c ∷ cs) [] = omega arith
length-plus (c ∷ cs) (d ∷ ds) = let more = length-plus cs ds in omega arith

pub bytes-plus : (cs ds : List ℕ) → AreBytes cs → AreBytes ds → AreBytes (plus cs ds)
bytes-plus [] ds h k = k
bytes-plus (c ∷ cs) [] h k = h
bytes-plus (c ∷ cs) (d ∷ ds) h k =
    All-cons IsByte (bit_xor c d) (plus cs ds) (xor_of_8 c d (All-head IsByte c cs h) (All-head IsByte d ds k))
    (bytes-plus cs ds (All-tail IsByte c cs h) (All-tail IsByte d ds k))

-- ---- a multiple
abbrev pub scaled : ℕ → List ℕ → List ℕ
scaled a [] = []
scaled a (c ∷ cs) = mul_of a c ∷ scaled a cs

pub value-scaled : (a : ℕ) (cs : List ℕ) (x : ℕ) → value_at (scaled a cs) x ≡ mul_of a (value_at cs x)
value-scaled a [] x = sym (mul_of-zero_right a)
value-scaled a (c ∷ cs) x =
    ap (λ (y : ℕ). bit_xor (mul_of a c) (mul_of x y)) (value-scaled a cs x)
    ∙ ap (bit_xor (mul_of a c)) (mul_of_left_comm x a (value_at cs x))
    ∙ sym (mul_of-xor_right a c (mul_of x (value_at cs x)))

pub length-scaled : (a : ℕ) (cs : List ℕ) → length (scaled a cs) ≡ length cs
length-scaled a [] = refl
length-scaled a (c ∷ cs) = ap suc (length-scaled a cs)

pub bytes-scaled : (a : ℕ) (cs : List ℕ) → AreBytes (scaled a cs)
bytes-scaled a [] = All-nil IsByte
bytes-scaled a (c ∷ cs) = All-cons IsByte (mul_of a c) (scaled a cs) (mul_of-lt a c) (bytes-scaled a cs)

-- ---- one more root
abbrev pub with_root : ℕ → List ℕ → List ℕ
with_root r cs = plus (0 ∷ cs) (scaled r cs)

pub value-with_root : (r : ℕ) (cs : List ℕ) (x : ℕ) → value_at (with_root r cs) x ≡ mul_of (bit_xor x r) (value_at cs x)
value-with_root r cs x =
    value-plus (0 ∷ cs) (scaled r cs) x
    ∙ ap (bit_xor (mul_of x (value_at cs x))) (value-scaled r cs x)
    ∙ sym (mul_of-xor_left x r (value_at cs x))

pub length-with_root : (r : ℕ) (cs : List ℕ) → length (with_root r cs) ≡ suc (length cs)
length-with_root r cs = let sum = length-plus (0 ∷ cs) (scaled r cs) in let same = length-scaled r cs in omega arith

pub bytes-with_root : (r : ℕ) (cs : List ℕ) → AreBytes cs → AreBytes (with_root r cs)
bytes-with_root r cs h = bytes-plus (0 ∷ cs) (scaled r cs) (All-cons IsByte 0 cs (omega arith) h) (bytes-scaled r cs)

-- ---- a root divides: the quotient of a polynomial, without its constant, by x + r
abbrev quotient : ℕ → List ℕ → List ℕ
quotient r [] = []
quotient r (d ∷ ds) = value_at (d ∷ ds) r ∷ quotient r ds

length-quotient : (r : ℕ) (ds : List ℕ) → length (quotient r ds) ≡ length ds
length-quotient r [] = refl
length-quotient r (d ∷ ds) = ap suc (length-quotient r ds)

bytes-quotient : (r : ℕ) (ds : List ℕ) → AreBytes ds → AreBytes (quotient r ds)
bytes-quotient r [] h = All-nil IsByte
bytes-quotient r (d ∷ ds) h =
    All-cons IsByte (value_at (d ∷ ds) r) (quotient r ds) (value_lt (d ∷ ds) r h) (bytes-quotient r ds (All-tail IsByte d ds h))

-- x P(x) + r P(r) is (x + r) Q(x)
divides : (r : ℕ) (ds : List ℕ) (x : ℕ)
    → bit_xor (mul_of x (value_at ds x)) (mul_of r (value_at ds r)) ≡ mul_of (bit_xor x r) (value_at (quotient r ds) x)
divides r [] x =
    ap (λ (y : ℕ). bit_xor y (mul_of r 0)) (mul_of-zero_right x) ∙ mul_of-zero_right r ∙ sym (mul_of-zero_right (bit_xor x r))
divides r (d ∷ ds) x =
    let at_x : ℕ = value_at (d ∷ ds) x in
    let at_r : ℕ = value_at (d ∷ ds) r in
    let q : ℕ = value_at (quotient r ds) x in
    let apart : bit_xor at_x at_r ≡ mul_of (bit_xor x r) q =
    xor_cancel_left d (mul_of x (value_at ds x)) (mul_of r (value_at ds r)) ∙ divides r ds x in
    let second : mul_of (bit_xor x r) (mul_of x q) ≡ bit_xor (mul_of x at_x) (mul_of x at_r) =
    mul_of_left_comm (bit_xor x r) x q ∙ ap (mul_of x) (sym apart) ∙ mul_of-xor_right x at_x at_r in
    sym
    (mul_of-xor_right (bit_xor x r) at_r (mul_of x q)
    ∙ ap (λ (y : ℕ). bit_xor y (mul_of (bit_xor x r) (mul_of x q))) (mul_of-xor_left x r at_r)
    ∙ ap (bit_xor (bit_xor (mul_of x at_r) (mul_of r at_r))) (second ∙ xor_comm (mul_of x at_x) (mul_of x at_r))
    ∙ xor_cancel_left (mul_of x at_r) (mul_of r at_r) (mul_of x at_x)
    ∙ xor_comm (mul_of r at_r) (mul_of x at_x))

-- P(x) + P(r) is (x + r) Q(x)
factored : (r c : ℕ) (ds : List ℕ) (x : ℕ)
    → bit_xor (value_at (c ∷ ds) x) (value_at (c ∷ ds) r) ≡ mul_of (bit_xor x r) (value_at (quotient r ds) x)
factored r c ds x = xor_cancel_left c (mul_of x (value_at ds x)) (mul_of r (value_at ds r)) ∙ divides r ds x

at_root : (r c : ℕ) (ds : List ℕ) (x : ℕ) → value_at (c ∷ ds) r ≡ 0
    → value_at (c ∷ ds) x ≡ mul_of (bit_xor x r) (value_at (quotient r ds) x)
at_root r c ds x h =
    sym (xor_zero_r (value_at (c ∷ ds) x)) ∙ ap (bit_xor (value_at (c ∷ ds) x)) (sym h) ∙ factored r c ds x

pub AllPairs-tail : (R : ℕ → ℕ → Type 0) (x : ℕ) (xs : List ℕ) → AllPairs R (x ∷ xs) → AllPairs R xs
AllPairs-tail R x xs h i j d lt less = h (suc i) (suc j) d (omega arith) (omega arith)

pub AllPairs-head : (R : ℕ → ℕ → Type 0) (x : ℕ) (xs : List ℕ) → AllPairs R (x ∷ xs) → All (λ y. R x y) xs
AllPairs-head R x xs h k d less = h zero (suc k) d (omega arith) (omega arith)

-- a polynomial of degree below the number of its roots is zero everywhere
pub vanishes : (roots cs : List ℕ) → length cs ≤ length roots → AreBytes roots → AreBytes cs → AllPairs (λ a b. a ≢ b) roots
    → All (λ r. value_at cs r ≡ 0) roots → (x : ℕ) → value_at cs x ≡ 0
vanishes [] [] few hr hc apart h x = refl
vanishes [] (c ∷ cs) few hr hc apart h x = absurd (omega arith)
vanishes (r ∷ rs) [] few hr hc apart h x = refl
vanishes (r ∷ rs) (c ∷ ds) few hr hc apart h x =
    let root : value_at (c ∷ ds) r ≡ 0 = All-head (λ r. value_at (c ∷ ds) r ≡ 0) r rs h in
    let others : All (λ s. value_at (c ∷ ds) s ≡ 0) rs = All-tail (λ r. value_at (c ∷ ds) r ≡ 0) r rs h in
    let long = length-quotient r ds in
    let q = vanishes rs (quotient r ds) (omega arith) (All-tail IsByte r rs hr) (bytes-quotient r ds (All-tail IsByte c ds hc))
    (AllPairs-tail (λ a b. a ≢ b) r rs apart)
    (λ k d less.
    no_zero_product (bit_xor (get_or rs k d) r) (value_at (quotient r ds) (get_or rs k d))
    (xor_apart (get_or rs k d) r (λ e. AllPairs-head (λ a b. a ≢ b) r rs apart k d less (sym e)))
    (xor_of_8 (get_or rs k d) r (All-tail IsByte r rs hr k d less) (All-head IsByte r rs hr))
    (value_lt (quotient r ds) (get_or rs k d) (bytes-quotient r ds (All-tail IsByte c ds hc)))
    (sym (at_root r c ds (get_or rs k d) root) ∙ others k d less)) in
    at_root r c ds x root ∙ ap (mul_of (bit_xor x r)) (q x) ∙ mul_of-zero_right (bit_xor x r)

-- two that agree at as many places as they have coefficients agree everywhere
pub agree : (places cs ds : List ℕ) → length cs ≤ length places → length ds ≤ length places → AreBytes places → AreBytes cs → AreBytes ds
    → AllPairs (λ a b. a ≢ b) places → All (λ p. value_at cs p ≡ value_at ds p) places → (x : ℕ) → value_at cs x ≡ value_at ds x
agree places cs ds hc hd bytes bc bd apart same x =
    let long = length-plus cs ds in
    xor_same (value_at cs x) (value_at ds x)
    (sym (value-plus cs ds x)
    ∙ vanishes places (plus cs ds) (omega arith) bytes (bytes-plus cs ds bc bd) apart
    (λ k d less.
    value-plus cs ds (get_or places k d)
    ∙ ap (λ (y : ℕ). bit_xor y (value_at ds (get_or places k d))) (same k d less)
    ∙ xor_self (value_at ds (get_or places k d)))
    x)

-- ---- the coefficients themselves
abbrev IsZero : ℕ → Type 0
IsZero c = c ≡ 0

value_zero : (cs : List ℕ) (x : ℕ) → All IsZero cs → value_at cs x ≡ 0
value_zero [] x h = refl
value_zero (c ∷ cs) x h =
    ap (λ (y : ℕ). bit_xor y (mul_of x (value_at cs x))) (All-head IsZero c cs h)
    ∙ ap (mul_of x) (value_zero cs x (All-tail IsZero c cs h))
    ∙ mul_of-zero_right x

-- a constant is 0 where the value is, and the other coefficients are
constant_zero : (c : ℕ) (cs : List ℕ) (x : ℕ) → All IsZero cs → value_at (c ∷ cs) x ≡ 0 → c ≡ 0
constant_zero c cs x h e =
    sym (xor_zero_r c)
    ∙ ap (bit_xor c) (sym (ap (mul_of x) (value_zero cs x h) ∙ mul_of-zero_right x))
    ∙ e

quotient_zero : (r : ℕ) (ds : List ℕ) → All IsZero (quotient r ds) → All IsZero ds
quotient_zero r [] h = All-nil IsZero
quotient_zero r (d ∷ ds) h =
    let rest : All IsZero ds = quotient_zero r ds (All-tail IsZero (value_at (d ∷ ds) r) (quotient r ds) h) in
    All-cons IsZero d ds (constant_zero d ds r rest (All-head IsZero (value_at (d ∷ ds) r) (quotient r ds) h)) rest

-- a polynomial of degree below the number of its roots has no coefficient but 0
pub vanishing_zero : (roots cs : List ℕ) → length cs ≤ length roots → AreBytes roots → AreBytes cs → AllPairs (λ a b. a ≢ b) roots
    → All (λ r. value_at cs r ≡ 0) roots → All IsZero cs
vanishing_zero [] [] few hr hc apart h = All-nil IsZero
vanishing_zero [] (c ∷ cs) few hr hc apart h = absurd (omega arith)
vanishing_zero (r ∷ rs) [] few hr hc apart h = All-nil IsZero
vanishing_zero (r ∷ rs) (c ∷ ds) few hr hc apart h =
    let root : value_at (c ∷ ds) r ≡ 0 = All-head (λ r. value_at (c ∷ ds) r ≡ 0) r rs h in
    let others : All (λ s. value_at (c ∷ ds) s ≡ 0) rs = All-tail (λ r. value_at (c ∷ ds) r ≡ 0) r rs h in
    let long = length-quotient r ds in
    let q : All IsZero (quotient r ds) =
    vanishing_zero rs (quotient r ds) (omega arith) (All-tail IsByte r rs hr) (bytes-quotient r ds (All-tail IsByte c ds hc))
    (AllPairs-tail (λ a b. a ≢ b) r rs apart)
    (λ k d less.
    no_zero_product (bit_xor (get_or rs k d) r) (value_at (quotient r ds) (get_or rs k d))
    (xor_apart (get_or rs k d) r (λ e. AllPairs-head (λ a b. a ≢ b) r rs apart k d less (sym e)))
    (xor_of_8 (get_or rs k d) r (All-tail IsByte r rs hr k d less) (All-head IsByte r rs hr))
    (value_lt (quotient r ds) (get_or rs k d) (bytes-quotient r ds (All-tail IsByte c ds hc)))
    (sym (at_root r c ds (get_or rs k d) root) ∙ others k d less)) in
    let rest : All IsZero ds = quotient_zero r ds q in
    All-cons IsZero c ds (constant_zero c ds r rest root) rest

same_from_plus : (cs ds : List ℕ) → length cs ≡ length ds → All IsZero (plus cs ds) → cs ≡ ds
same_from_plus [] [] e h = refl
same_from_plus [] (d ∷ ds) e h = absurd (omega arith)
same_from_plus (c ∷ cs) [] e h = absurd (omega arith)
same_from_plus (c ∷ cs) (d ∷ ds) e h =
    ap (λ (x : ℕ). x ∷ cs) (xor_same c d (All-head IsZero (bit_xor c d) (plus cs ds) h))
    ∙ ap (λ (xs : List ℕ). d ∷ xs) (same_from_plus cs ds (omega arith) (All-tail IsZero (bit_xor c d) (plus cs ds) h))

-- two with as many coefficients as places, that agree at these, have the same coefficients
pub same_coefficients : (places cs ds : List ℕ) → length cs ≡ length places → length ds ≡ length places → AreBytes places → AreBytes cs → AreBytes ds
    → AllPairs (λ a b. a ≢ b) places → All (λ p. value_at cs p ≡ value_at ds p) places → cs ≡ ds
same_coefficients places cs ds hc hd bytes bc bd apart same =
    let long = length-plus cs ds in
    same_from_plus cs ds (hc ∙ sym hd)
    (vanishing_zero places (plus cs ds) (omega arith) bytes (bytes-plus cs ds bc bd) apart
    (λ k d less.
    value-plus cs ds (get_or places k d)
    ∙ ap (λ (y : ℕ). bit_xor y (value_at ds (get_or places k d))) (same k d less)
    ∙ xor_self (value_at ds (get_or places k d))))
