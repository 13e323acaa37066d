-- Lagrange's formula: the value of a polynomial of degree below k from its values at k places.
use Rattle.std.proofs.Common.{◌≡◌, ◌≢◌, ℕ, zero, suc, ◌<◌, ◌≤◌, ◌==◌, max, true, false, cond, List, [], ◌∷◌, length, slice_index, refl, sym, ap, ◌∙◌, arith, inl, inr}
use Rattle.std.specs.Int.Bits.{bit_xor, xor_self}
use Rattle.std.proofs.lemmas.Nat.{xor_of_8}
use Rattle.std.proofs.lemmas.Bool.{cases_lt, cases_eq, eq-eqb, ne_eqb}
use Rattle.std.proofs.lemmas.List.{get_or_default}
use Rattle.std.proofs.lemmas.List.Elements.{All-nil, All-cons}
use Rattle.gf_field.specs.Field.{xor_below, mul_of, inverse_of}
use Rattle.gf_field.proofs.Field.{mul_of-comm, mul_of-assoc, mul_of-one_left, mul_of-one_right, mul_of-zero_left, mul_of-zero_right}
use Rattle.gf_field.proofs.Powers.{mul_of-inverse}
use Rattle.erasure.specs.Polynomial.{value_at}
use Rattle.erasure.specs.Code.{AreBytes}
use Rattle.erasure.specs.Blocks.{mul_below, distance_of, weight_of, value_through}
use Rattle.erasure.specs.Given.{AreDistinct}
use Rattle.erasure.proofs.Sums.{xor_apart, xor_below_single, mul_below_lt, mul_below_zero, mul_below_apart}
use Rattle.erasure.proofs.Polynomials.{plus, value-plus, length-plus, bytes-plus, scaled, value-scaled, length-scaled, bytes-scaled, with_root, value-with_root, length-with_root, bytes-with_root, agree}

-- how far x is from place m, or 1 where m is j
abbrev factor : List ℕ → ℕ → ℕ → ℕ → ℕ
factor ps j x m = cond (m == j) 1 (bit_xor x (slice_index ps m))

-- ---- the polynomial with the first n places but place j as its roots
others : List ℕ → ℕ → ℕ → List ℕ
others ps j zero = 1 ∷ []
others ps j (suc n) = cond (n == j) (others ps j n) (with_root (slice_index ps n) (others ps j n))

value-others : (ps : List ℕ) (j n x : ℕ) → value_at (others ps j n) x ≡ mul_below n (factor ps j x)
unfolding others
value-others ps j zero x = ap (bit_xor 1) (mul_of-zero_right x)
value-others ps j (suc n) x =
    elim (n == j) as (λ b. value_at (cond b (others ps j n) (with_root (slice_index ps n) (others ps j n))) x
    ≡ mul_of (mul_below n (factor ps j x)) (cond b 1 (bit_xor x (slice_index ps n)))) [
      | true ↦ value-others ps j n x ∙ sym (mul_of-one_right (mul_below n (factor ps j x)) (mul_below_lt n (factor ps j x)))
      | false ↦
          value-with_root (slice_index ps n) (others ps j n) x
          ∙ ap (mul_of (bit_xor x (slice_index ps n))) (value-others ps j n x)
          ∙ mul_of-comm (bit_xor x (slice_index ps n)) (mul_below n (factor ps j x))
    ]

bytes-others : (ps : List ℕ) (j n : ℕ) → AreBytes (others ps j n)
unfolding others
bytes-others ps j zero = All-cons (λ b. b < 256) 1 [] (omega arith) (All-nil (λ b. b < 256))
bytes-others ps j (suc n) =
    elim (n == j) as (λ b. AreBytes (cond b (others ps j n) (with_root (slice_index ps n) (others ps j n)))) [
      | true ↦ bytes-others ps j n
      | false ↦ bytes-with_root (slice_index ps n) (others ps j n) (bytes-others ps j n)
    ]

length-others_past : (ps : List ℕ) (j n : ℕ) → n ≤ j → length (others ps j n) ≡ suc n
unfolding others
length-others_past ps j zero le = refl
length-others_past ps j (suc n) le =
    let off : n == j ≡ false = ne_eqb n j (omega arith) in
    ap (λ b. length (cond b (others ps j n) (with_root (slice_index ps n) (others ps j n)))) off
    ∙ length-with_root (slice_index ps n) (others ps j n)
    ∙ ap suc (length-others_past ps j n (omega arith))

length-others : (ps : List ℕ) (j n : ℕ) → j < n → length (others ps j n) ≡ n
unfolding others
length-others ps j zero lt = absurd (omega arith)
length-others ps j (suc n) lt = elim (cases_lt j n) [
  | inl below ↦
      let off : n == j ≡ false = ne_eqb n j (omega arith) in
      ap (λ b. length (cond b (others ps j n) (with_root (slice_index ps n) (others ps j n)))) off
      ∙ length-with_root (slice_index ps n) (others ps j n)
      ∙ ap suc (length-others ps j n below)
  | inr top ↦
      let on : n == j ≡ true = eq-eqb n j (omega arith) in
      ap (λ b. length (cond b (others ps j n) (with_root (slice_index ps n) (others ps j n)))) on
      ∙ length-others_past ps j n top
]

value_is_distance : (ps : List ℕ) (j x : ℕ) → value_at (others ps j (length ps)) x ≡ distance_of ps j x
unfolding distance_of
value_is_distance ps j x = value-others ps j (length ps) x

-- ---- weights at the places
pub distinct_at : (ps : List ℕ) → AreDistinct ps → (i j : ℕ) → i < length ps → j < length ps → i ≢ j → slice_index ps i ≢ slice_index ps j
distinct_at ps apart i j hi hj ne e = elim (cases_lt i j) [
  | inl before ↦ apart i j 0 before hj e
  | inr after ↦ apart j i 0 (omega arith) hi (sym e)
]

distance_apart : (ps : List ℕ) → AreBytes ps → AreDistinct ps → (j : ℕ) → j < length ps
    → (0 < distance_of ps j (slice_index ps j)) × (distance_of ps j (slice_index ps j) < 256)
unfolding distance_of
distance_apart ps bytes apart j lt = (
  mul_below_apart (length ps) (factor ps j (slice_index ps j))
      (λ m hm.
      elim (cases_eq m j) [
        | inl same ↦
            let on : m == j ≡ true = eq-eqb m j same in
            let e : factor ps j (slice_index ps j) m ≡ 1 = ap (λ b. cond b 1 (bit_xor (slice_index ps j) (slice_index ps m))) on in
            (omega arith, omega arith)
        | inr other ↦
            let off : m == j ≡ false = ne_eqb m j other in
            let e : factor ps j (slice_index ps j) m ≡ bit_xor (slice_index ps j) (slice_index ps m) =
            ap (λ b. cond b 1 (bit_xor (slice_index ps j) (slice_index ps m))) off in
            let pos = xor_apart (slice_index ps j) (slice_index ps m) (distinct_at ps apart j m lt hm (λ q. other (sym q))) in
            let small = xor_of_8 (slice_index ps j) (slice_index ps m) (bytes j 0 lt) (bytes m 0 hm) in
            (omega arith, omega arith)
      ]),
  mul_below_lt (length ps) (factor ps j (slice_index ps j)),
)

distance_at_other : (ps : List ℕ) (i j : ℕ) → i < length ps → i ≢ j → distance_of ps j (slice_index ps i) ≡ 0
unfolding distance_of
distance_at_other ps i j lt ne =
    mul_below_zero (length ps) (factor ps j (slice_index ps i)) i lt
    (ap (λ b. cond b 1 (bit_xor (slice_index ps i) (slice_index ps i))) (ne_eqb i j ne) ∙ xor_self (slice_index ps i))

weight_at_other : (ps : List ℕ) (i j : ℕ) → i < length ps → i ≢ j → weight_of ps j (slice_index ps i) ≡ 0
unfolding weight_of
weight_at_other ps i j lt ne =
    ap (λ (d : ℕ). mul_of d (inverse_of (distance_of ps j (slice_index ps j)))) (distance_at_other ps i j lt ne)
    ∙ mul_of-zero_left (inverse_of (distance_of ps j (slice_index ps j)))

weight_at_same : (ps : List ℕ) → AreBytes ps → AreDistinct ps → (j : ℕ) → j < length ps → weight_of ps j (slice_index ps j) ≡ 1
unfolding weight_of
weight_at_same ps bytes apart j lt =
    let d = distance_apart ps bytes apart j lt in
    mul_of-inverse (distance_of ps j (slice_index ps j)) d.0 d.1

-- at a place the formula gives the value there
pub through_place : (ps ys : List ℕ) → AreBytes ps → AreDistinct ps → (i : ℕ) → i < length ps → slice_index ys i < 256
    → value_through ps ys (slice_index ps i) ≡ slice_index ys i
unfolding value_through
through_place ps ys bytes apart i lt small =
    xor_below_single (length ps) (λ j. mul_of (weight_of ps j (slice_index ps i)) (slice_index ys j)) i lt
    (λ j less ne.
    ap (λ (w : ℕ). mul_of w (slice_index ys j)) (weight_at_other ps i j lt (λ e. ne (sym e)))
    ∙ mul_of-zero_left (slice_index ys j))
    ∙ ap (λ (w : ℕ). mul_of w (slice_index ys i)) (weight_at_same ps bytes apart i lt)
    ∙ mul_of-one_left (slice_index ys i) small

-- ---- the formula as a polynomial
-- the first n terms
terms : List ℕ → List ℕ → ℕ → List ℕ
terms ps ys zero = []
terms ps ys (suc n) =
    plus (terms ps ys n) (scaled (mul_of (slice_index ys n) (inverse_of (distance_of ps n (slice_index ps n)))) (others ps n (length ps)))

turned : (y i d : ℕ) → mul_of (mul_of y i) d ≡ mul_of (mul_of d i) y
turned y i d = mul_of-assoc y i d ∙ mul_of-comm y (mul_of i d) ∙ ap (λ (x : ℕ). mul_of x y) (mul_of-comm i d)

value-terms : (ps ys : List ℕ) (n x : ℕ) → value_at (terms ps ys n) x ≡ xor_below n (λ j. mul_of (weight_of ps j x) (slice_index ys j))
unfolding terms weight_of
value-terms ps ys zero x = refl
value-terms ps ys (suc n) x =
    let i : ℕ = inverse_of (distance_of ps n (slice_index ps n)) in
    let y : ℕ = slice_index ys n in
    value-plus (terms ps ys n) (scaled (mul_of y i) (others ps n (length ps))) x
    ∙ ap (λ (v : ℕ). bit_xor v (value_at (scaled (mul_of y i) (others ps n (length ps))) x)) (value-terms ps ys n x)
    ∙ ap (bit_xor (xor_below n (λ j. mul_of (weight_of ps j x) (slice_index ys j))))
    (value-scaled (mul_of y i) (others ps n (length ps)) x
    ∙ ap (mul_of (mul_of y i)) (value_is_distance ps n x)
    ∙ turned y i (distance_of ps n x))

bytes-terms : (ps ys : List ℕ) (n : ℕ) → AreBytes (terms ps ys n)
unfolding terms
bytes-terms ps ys zero = All-nil (λ b. b < 256)
bytes-terms ps ys (suc n) =
    bytes-plus (terms ps ys n) (scaled (mul_of (slice_index ys n) (inverse_of (distance_of ps n (slice_index ps n)))) (others ps n (length ps)))
    (bytes-terms ps ys n) (bytes-scaled (mul_of (slice_index ys n) (inverse_of (distance_of ps n (slice_index ps n)))) (others ps n (length ps)))

length-next : (ps ys : List ℕ) (n : ℕ) → n < length ps
    → length (terms ps ys (suc n)) ≡ max (length (terms ps ys n)) (length ps)
unfolding terms
length-next ps ys n lt =
    length-plus (terms ps ys n) (scaled (mul_of (slice_index ys n) (inverse_of (distance_of ps n (slice_index ps n)))) (others ps n (length ps)))
    ∙ ap (max (length (terms ps ys n)))
    (length-scaled (mul_of (slice_index ys n) (inverse_of (distance_of ps n (slice_index ps n)))) (others ps n (length ps))
    ∙ length-others ps n (length ps) lt)

length-first : (ps ys : List ℕ) → length (terms ps ys zero) ≡ 0
unfolding terms
length-first ps ys = refl

length-terms : (ps ys : List ℕ) (n : ℕ) → n < length ps → length (terms ps ys (suc n)) ≡ length ps
length-terms ps ys zero lt = let next = length-next ps ys 0 lt in let first = length-first ps ys in omega arith
length-terms ps ys (suc n) lt =
    let next = length-next ps ys (suc n) lt in
    let before = length-terms ps ys n (omega arith) in
    omega arith

-- the coefficients of the polynomial that has these values at these places
pub coefficients_of : List ℕ → List ℕ → List ℕ
coefficients_of ps ys = terms ps ys (length ps)

pub value-coefficients_of : (ps ys : List ℕ) (x : ℕ) → value_at (coefficients_of ps ys) x ≡ value_through ps ys x
unfolding coefficients_of value_through
value-coefficients_of ps ys x = value-terms ps ys (length ps) x

pub bytes-coefficients_of : (ps ys : List ℕ) → AreBytes (coefficients_of ps ys)
unfolding coefficients_of
bytes-coefficients_of ps ys = bytes-terms ps ys (length ps)

pub length-coefficients_of : (ps ys : List ℕ) → length (coefficients_of ps ys) ≡ length ps
unfolding coefficients_of
length-coefficients_of [] ys = length-first [] ys
length-coefficients_of (p ∷ ps) ys = length-terms (p ∷ ps) ys (length ps) (omega arith)

-- a polynomial that has these values at these places has the formula's value everywhere
pub through_is : (ps ys cs : List ℕ) → AreBytes ps → AreDistinct ps → AreBytes cs → length cs ≤ length ps
    → ((i : ℕ) → i < length ps → slice_index ys i < 256 × (value_at cs (slice_index ps i) ≡ slice_index ys i))
    → (x : ℕ) → value_through ps ys x ≡ value_at cs x
through_is ps ys cs bytes apart elements few at x =
    sym (value-coefficients_of ps ys x)
    ∙ agree ps (coefficients_of ps ys) cs (let long = length-coefficients_of ps ys in omega arith) few bytes
    (bytes-coefficients_of ps ys) elements apart
    (λ i d less.
    let here : value_at (coefficients_of ps ys) (slice_index ps i) ≡ value_at cs (slice_index ps i) =
    value-coefficients_of ps ys (slice_index ps i)
    ∙ through_place ps ys bytes apart i less (at i less).0
    ∙ sym (at i less).1 in
    ap (value_at (coefficients_of ps ys)) (get_or_default ps i d 0 less) ∙ here ∙ ap (value_at cs) (get_or_default ps i 0 d less))
    x
