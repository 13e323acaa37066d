-- Laws of bytes under the keystream.
use Rattle.std.proofs.Common.{◌≡◌, ℕ, zero, suc, ◌+◌, ◌-◌, ◌≤◌, ◌<◌, List, [], ◌∷◌, ◌++◌, length, get_or, take, drop, bit_xor, refl, ap, sym, ◌∙◌, arith, add-zero}
use Rattle.std.proofs.lemmas.List.{ext_get_or, append_assoc, take_at, drop_at, drop-drop, take-append-drop, take-take, length-take-le}
use Rattle.std.proofs.lemmas.Slice.{between_is}
use Rattle.std.specs.Int.Bits.{xor_assoc, xor_self, xor_zero_r}
use Rattle.aes_ctr.specs.Keystream.{stream}
use Rattle.aes_ctr.specs.Crypt.{crypt_from}

pub length-crypt_from : (key : List ℕ) (p : ℕ) (bs : List ℕ) → length (crypt_from key p bs) ≡ length bs
unfolding crypt_from
length-crypt_from key p [] = refl
length-crypt_from key p (b ∷ bs) = ap suc (length-crypt_from key (p + 1) bs)

-- byte i of the result
pub get_or-crypt_from : (key : List ℕ) (p : ℕ) (bs : List ℕ) (i : ℕ) → i < length bs
    → get_or (crypt_from key p bs) i 0 ≡ bit_xor (get_or bs i 0) (stream key (p + i))
unfolding crypt_from
get_or-crypt_from key p [] i h = absurd (omega arith)
get_or-crypt_from key p (b ∷ bs) zero h = rw add-zero
get_or-crypt_from key p (b ∷ bs) (suc i) h =
    let later = get_or-crypt_from key (p + 1) bs i (omega arith) in
    let place : p + 1 + i ≡ p + suc i = omega arith in
    later ∙ ap (λ (q : ℕ). bit_xor (get_or bs i 0) (stream key q)) place

-- a beginning, and the rest from where it ends
pub crypt_from-append : (key : List ℕ) (p : ℕ) (xs ys : List ℕ)
    → crypt_from key p (xs ++ ys) ≡ crypt_from key p xs ++ crypt_from key (p + length xs) ys
unfolding crypt_from
crypt_from-append key p [] ys = rw add-zero
crypt_from-append key p (x ∷ xs) ys =
    let place : p + 1 + length xs ≡ p + suc (length xs) = omega arith in
    ap (λ (zs : List ℕ). bit_xor x (stream key p) ∷ zs) (crypt_from-append key (p + 1) xs ys
    ∙ ap (λ (q : ℕ). crypt_from key (p + 1) xs ++ crypt_from key q ys) place)

-- added twice, a number is back
pub xor_twice : (a b : ℕ) → bit_xor (bit_xor a b) b ≡ a
xor_twice a b = xor_assoc a b b ∙ ap (bit_xor a) (xor_self b) ∙ xor_zero_r a

pub crypt_from-twice : (key : List ℕ) (p : ℕ) (bs : List ℕ) → crypt_from key p (crypt_from key p bs) ≡ bs
unfolding crypt_from
crypt_from-twice key p [] = refl
crypt_from-twice key p (b ∷ bs) =
    let first = xor_twice b (stream key p) in
    let later = crypt_from-twice key (p + 1) bs in
    cc

-- bytes of which each was added to the keystream's at its place
pub crypt_from_each : (key : List ℕ) (p : ℕ) (xs ys : List ℕ) → length ys ≡ length xs
    → ((i : ℕ) → i < length xs → get_or ys i 0 ≡ bit_xor (get_or xs i 0) (stream key (p + i)))
    → ys ≡ crypt_from key p xs
crypt_from_each key p xs ys long added =
    ext_get_or 0 ys (crypt_from key p xs) (long ∙ sym (length-crypt_from key p xs)) (λ i h.
    let within : i < length xs = omega arith in
    added i within ∙ sym (get_or-crypt_from key p xs i within))

-- a piece more of what has been done so far
pub crypt_from_more : (key : List ℕ) (p : ℕ) (bs now : List ℕ) (i j : ℕ) → i ≤ j → j ≤ length bs
    → now ≡ crypt_from key p (take i bs) ++ drop i bs
    → take i now ++ (crypt_from key (p + i) (take (j - i) (drop i now)) ++ drop (j - i) (drop i now))
    ≡ crypt_from key p (take j bs) ++ drop j bs
crypt_from_more key p bs now i j low high so_far =
    let done = crypt_from key p (take i bs) in
    let this = take (j - i) (drop i bs) in
    let long : length (take i bs) ≡ i = length-take-le i bs (omega arith) in
    let done_long : length done ≡ i = length-crypt_from key p (take i bs) ∙ long in
    let front : take i now ≡ done = ap (take i) so_far ∙ take_at done (drop i bs) i done_long in
    let back : drop i now ≡ drop i bs = ap (drop i) so_far ∙ drop_at done (drop i bs) i done_long in
    let upto : i + (j - i) ≡ j = omega arith in
    let rest : drop (j - i) (drop i bs) ≡ drop j bs = drop-drop (j - i) i bs ∙ ap (λ (n : ℕ). drop n bs) upto in
    let split : take i bs ++ this ≡ take j bs =
    ap (λ (xs : List ℕ). take i bs ++ xs) (between_is bs i j)
    ∙ ap (λ (xs : List ℕ). xs ++ drop i (take j bs)) (sym (take-take i j bs low)) ∙ take-append-drop i (take j bs) in
    let joined : crypt_from key p (take j bs) ≡ done ++ crypt_from key (p + i) this =
    ap (crypt_from key p) (sym split) ∙ crypt_from-append key p (take i bs) this
    ∙ ap (λ (n : ℕ). done ++ crypt_from key (p + n) this) long in
    rw (front, back, rest, joined) (sym (append_assoc done (crypt_from key (p + i) this) (drop j bs)))

pub take-crypt_from : (key : List ℕ) (p : ℕ) (bs : List ℕ) (n : ℕ)
    → take n (crypt_from key p bs) ≡ crypt_from key p (take n bs)
unfolding crypt_from
take-crypt_from key p bs zero = refl
take-crypt_from key p [] (suc n) = refl
take-crypt_from key p (b ∷ bs) (suc n) =
    ap (λ (zs : List ℕ). bit_xor b (stream key p) ∷ zs) (take-crypt_from key (p + 1) bs n)

pub drop-crypt_from : (key : List ℕ) (p : ℕ) (bs : List ℕ) (n : ℕ)
    → drop n (crypt_from key p bs) ≡ crypt_from key (p + n) (drop n bs)
unfolding crypt_from
drop-crypt_from key p bs zero = ap (λ (q : ℕ). crypt_from key q bs) (sym (add-zero p))
drop-crypt_from key p [] (suc n) = refl
drop-crypt_from key p (b ∷ bs) (suc n) =
    let place : p + 1 + n ≡ p + suc n = omega arith in
    drop-crypt_from key (p + 1) bs n ∙ ap (λ (q : ℕ). crypt_from key q (drop n bs)) place
