-- Bits of numbers, joined and parted.
use Rattle.std.proofs.Common.{◌≡◌, ℕ, zero, suc, ◌+◌, ◌-◌, ◌*◌, ◌/◌, ◌%◌, ◌^◌, ◌<◌, ◌≤◌, List, [], ◌∷◌, ◌++◌, length, take, drop, replicate, refl, ap, sym, ◌∙◌, arith, append_assoc, length-append, zero-add}
use Rattle.std.specs.List.{AllByRecursion}
use Rattle.std.proofs.Math.Pow.{pow-add, shr-shr, high, split, pow_pos}
use Rattle.std.proofs.Math.Nat.{add-mul-div_left, mod-lt}
use Rattle.std.proofs.Math.Seq.{take-add}
use Rattle.std.proofs.lemmas.Nat.{div_below}
use Rattle.std.proofs.lemmas.List.{take_at, drop_at, length-drop}
use Rattle.base32_text.specs.Bits.{bits_of, joined, number_of, groups}

pub length-bits_of : (width number : ℕ) → length (bits_of width number) ≡ width
unfolding bits_of
length-bits_of zero number = refl
length-bits_of (suc width) number = ap suc (length-bits_of width number)

suc-add : (m n : ℕ) → suc m + n ≡ suc (m + n)
suc-add m n = omega arith

pub pow-suc : (k : ℕ) → 2 ^ suc k ≡ 2 * 2 ^ k
pow-suc k = (let e : suc k ≡ 1 + k = omega arith in ap (λ i. 2 ^ i) e) ∙ pow-add 2 1 k

-- the bits of a number, parted
pub bits_of-split : (m n number : ℕ) → bits_of (m + n) number ≡ bits_of m (number / 2 ^ n) ++ bits_of n number
unfolding bits_of
bits_of-split zero n number = rw zero-add refl
bits_of-split (suc m) n number =
    rw (suc-add m n)
    (let e : number / 2 ^ n / 2 ^ m ≡ number / 2 ^ (m + n) = shr-shr number n m ∙ ap (λ k. number / 2 ^ k) (omega arith) in
    rw e (ap (λ bits. number / 2 ^ (m + n) % 2 ∷ bits) (bits_of-split m n number)))

above_is : (above power : ℕ) → above * (2 * power) ≡ power * (above * 2)
above_is above power = omega arith

doubled-mod : (x above : ℕ) → (x + above * 2) % 2 ≡ x % 2
doubled-mod x above = omega arith

turned : (above power number : ℕ) → power * (above * 2) + number ≡ (above * 2) * power + number
turned above power number = omega arith

swapped : (a b : ℕ) → a + b ≡ b + a
swapped a b = omega arith

-- what stands above the width does not count
pub bits_of-low : (width above number : ℕ) → bits_of width (above * 2 ^ width + number) ≡ bits_of width number
unfolding bits_of
bits_of-low zero above number = refl
bits_of-low (suc width) above number =
    let same : above * 2 ^ suc width ≡ 2 ^ width * (above * 2) = ap (λ p. above * p) (pow-suc width) ∙ above_is above (2 ^ width) in
    rw same
    (let first : (2 ^ width * (above * 2) + number) / 2 ^ width % 2 ≡ number / 2 ^ width % 2 =
    ap (λ x. x / 2 ^ width % 2) (swapped (2 ^ width * (above * 2)) number)
    ∙ ap (λ x. x % 2) (add-mul-div_left number (above * 2) (pow_pos width))
    ∙ doubled-mod (number / 2 ^ width) above in
    let others : bits_of width (2 ^ width * (above * 2) + number) ≡ bits_of width number =
    ap (bits_of width) (turned above (2 ^ width) number) ∙ bits_of-low width (above * 2) number in
    rw (first, others) refl)

-- bits joined behind bits
pub bits_of-push : (m n above number : ℕ) → number < 2 ^ n
    → bits_of (m + n) (above * 2 ^ n + number) ≡ bits_of m above ++ bits_of n number
bits_of-push m n above number small =
    bits_of-split m n (above * 2 ^ n + number)
    ∙ ap (λ x. bits_of m x ++ bits_of n (above * 2 ^ n + number)) (high above n small)
    ∙ ap (λ bits. bits_of m above ++ bits) (bits_of-low n above number)

-- a bit is 0 or 1
abbrev pub AreBits : List ℕ → Type 0
AreBits bits = AllByRecursion (λ bit. bit < 2) bits

pub are_bits-bits_of : (width number : ℕ) → AreBits (bits_of width number)
unfolding bits_of
are_bits-bits_of zero number = tt
are_bits-bits_of (suc width) number = (mod-lt (number / 2 ^ width) (omega arith), are_bits-bits_of width number)

pub are_bits-append : (s t : List ℕ) → AreBits s → AreBits t → AreBits (s ++ t)
are_bits-append [] t p q = q
are_bits-append (b ∷ s) t p q = (p.0, are_bits-append s t p.1 q)

pub are_bits-zeros : (n : ℕ) → AreBits (replicate n 0)
are_bits-zeros zero = tt
are_bits-zeros (suc n) = (omega arith, are_bits-zeros n)

pub are_bits-joined : (width : ℕ) (numbers : List ℕ) → AreBits (joined width numbers)
unfolding joined
are_bits-joined width [] = tt
are_bits-joined width (x ∷ xs) = are_bits-append (bits_of width x) (joined width xs) (are_bits-bits_of width x) (are_bits-joined width xs)

pub are_bits-take : (n : ℕ) (bits : List ℕ) → AreBits bits → AreBits (take n bits)
are_bits-take zero bits p = tt
are_bits-take (suc n) [] p = tt
are_bits-take (suc n) (b ∷ bits) p = (p.0, are_bits-take n bits p.1)

pub are_bits-drop : (n : ℕ) (bits : List ℕ) → AreBits bits → AreBits (drop n bits)
are_bits-drop zero bits p = p
are_bits-drop (suc n) [] p = tt
are_bits-drop (suc n) (b ∷ bits) p = are_bits-drop n bits p.1

small_bit : (b : ℕ) → b < 2 → b % 2 ≡ b
small_bit b p = omega arith

two_of : (x p q : ℕ) → q ≡ 2 * p → x < q → x < 2 * p
two_of x p q e h = omega arith

one_below : (x : ℕ) → x < 1 → 0 ≡ x
one_below x h = omega arith

-- the bits of a number that fits write it
pub number_of-bits_of : (width number : ℕ) → number < 2 ^ width → number_of (bits_of width number) ≡ number
unfolding bits_of number_of
number_of-bits_of zero number small = one_below number small
number_of-bits_of (suc width) number small =
    let whole : number / 2 ^ width * 2 ^ width + number % 2 ^ width ≡ number = split number width in
    let below : number % 2 ^ width < 2 ^ width = mod-lt number (pow_pos width) in
    let bit : number / 2 ^ width < 2 = div_below number (2 ^ width) 2 (pow_pos width) (two_of number (2 ^ width) (2 ^ suc width) (pow-suc width) small) in
    let rest : bits_of width number ≡ bits_of width (number % 2 ^ width) =
    ap (bits_of width) (sym whole) ∙ bits_of-low width (number / 2 ^ width) (number % 2 ^ width) in
    let lower : number_of (bits_of width number) ≡ number % 2 ^ width =
    ap number_of rest ∙ number_of-bits_of width (number % 2 ^ width) below in
    rw (length-bits_of width number, lower, small_bit (number / 2 ^ width) bit) whole

sum_below : (b p n q : ℕ) → b < 2 → n < p → q ≡ 2 * p → b * p + n < q
sum_below zero p n q hb hn e = omega arith
sum_below (suc zero) p n q hb hn e = omega arith
sum_below (suc (suc b)) p n q hb hn e = absurd (omega arith)

pub number_of-lt : (bits : List ℕ) → AreBits bits → number_of bits < 2 ^ length bits
unfolding number_of
number_of-lt [] p = omega arith
number_of-lt (b ∷ bits) p = sum_below b (2 ^ length bits) (number_of bits) (2 ^ suc (length bits)) p.0 (number_of-lt bits p.1) (pow-suc (length bits))

-- the number that bits write has these bits
pub bits_of-number_of : (bits : List ℕ) → AreBits bits → bits_of (length bits) (number_of bits) ≡ bits
unfolding bits_of number_of
bits_of-number_of [] p = refl
bits_of-number_of (b ∷ bits) p =
    let first : (b * 2 ^ length bits + number_of bits) / 2 ^ length bits ≡ b = high b (length bits) (number_of-lt bits p.1) in
    let others : bits_of (length bits) (b * 2 ^ length bits + number_of bits) ≡ bits =
    bits_of-low (length bits) b (number_of bits) ∙ bits_of-number_of bits p.1 in
    rw (first, others, small_bit b p.0) refl

pub length-joined : (width : ℕ) (numbers : List ℕ) → length (joined width numbers) ≡ width * length numbers
unfolding joined
length-joined width [] = omega arith
length-joined width (x ∷ xs) =
    length-append (bits_of width x) (joined width xs)
    ∙ ap (λ n. n + length (joined width xs)) (length-bits_of width x)
    ∙ ap (λ n. width + n) (length-joined width xs)
    ∙ omega arith

-- numbers that fit are the groups of their bits
pub groups-joined : (width : ℕ) (numbers rest : List ℕ) → AllByRecursion (λ number. number < 2 ^ width) numbers
    → groups width (length numbers) (joined width numbers ++ rest) ≡ numbers
unfolding groups joined
groups-joined width [] rest p = refl
groups-joined width (x ∷ xs) rest p =
    rw append_assoc
    (let first : take width (bits_of width x ++ (joined width xs ++ rest)) ≡ bits_of width x =
    take_at (bits_of width x) (joined width xs ++ rest) width (length-bits_of width x) in
    let after : drop width (bits_of width x ++ (joined width xs ++ rest)) ≡ joined width xs ++ rest =
    drop_at (bits_of width x) (joined width xs ++ rest) width (length-bits_of width x) in
    rw (first, after, number_of-bits_of width x p.0, groups-joined width xs rest p.1) refl)

pub length-take-exact : (n : ℕ) (bits : List ℕ) → n ≤ length bits → length (take n bits) ≡ n
length-take-exact zero bits h = refl
length-take-exact (suc n) [] h = absurd (omega arith)
length-take-exact (suc n) (b ∷ bits) h = ap suc (length-take-exact n bits (omega arith))

fits_rest : (n width all rest : ℕ) → rest ≡ all - width → width * suc n ≤ all → (width ≤ all) × (width * n ≤ rest)
fits_rest n width all rest e h = (omega arith, omega arith)

more : (n width : ℕ) → width * suc n ≡ width + width * n
more n width = omega arith

-- the groups of bits have these bits
pub joined-groups : (width count : ℕ) (bits : List ℕ) → AreBits bits → width * count ≤ length bits
    → joined width (groups width count bits) ≡ take (width * count) bits
unfolding groups joined
joined-groups width zero bits p h = ap (λ n. take n bits) (let e : 0 ≡ width * 0 = omega arith in e)
joined-groups width (suc count) bits p h =
    let fits : (width ≤ length bits) × (width * count ≤ length (drop width bits)) =
    fits_rest count width (length bits) (length (drop width bits)) (length-drop width bits) h in
    let first : bits_of width (number_of (take width bits)) ≡ take width bits =
    ap (λ n. bits_of n (number_of (take width bits))) (sym (length-take-exact width bits fits.0))
    ∙ bits_of-number_of (take width bits) (are_bits-take width bits p) in
    let others : joined width (groups width count (drop width bits)) ≡ take (width * count) (drop width bits) =
    joined-groups width count (drop width bits) (are_bits-drop width bits p) fits.1 in
    rw (more count width, take-add width (width * count) bits, first, others) refl

append_nil : (s : List ℕ) → s ++ [] ≡ s
append_nil [] = refl
append_nil (x ∷ s) = ap (λ t. x ∷ t) (append_nil s)

-- one more number
pub joined-push : (width : ℕ) (numbers : List ℕ) (number : ℕ)
    → joined width (numbers ++ number ∷ []) ≡ joined width numbers ++ bits_of width number
unfolding joined
joined-push width [] number = append_nil (bits_of width number)
joined-push width (x ∷ xs) number = rw (append_assoc, joined-push width xs number) refl
