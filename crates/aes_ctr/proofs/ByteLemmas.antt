-- What is made of bytes consists of bytes, which are numbers below 256.
use Rattle.std.proofs.Common.{◌-◌, Bool, true, false, ℕ, zero, suc, ◌+◌, ◌*◌, ◌/◌, ◌%◌, ◌^◌, ◌<◌, ◌≤◌, List, [], ◌∷◌, length, get_or, bit_xor, sym, subst, arith, ⊎_elim}
use Rattle.std.proofs.lemmas.Bool.{cases_lt}
use Rattle.std.proofs.lemmas.List.{get_or_past}
use Rattle.std.proofs.lemmas.List.Elements.{All-cons, All-head, All-tail, All-nil}
use Rattle.std.proofs.lemmas.List.FromFn.{get_or-map-range_with_len}
use Rattle.std.proofs.lemmas.Nat.{xor_of_8}
use Rattle.std.specs.List.{All}
use Rattle.std.specs.Prelude.{◌==◌, if◌then◌else◌}
use Rattle.aes_ctr.specs.Field.{times_x}
use Rattle.aes_ctr.specs.SBox.{s_box, inverse, affine, affine_bit}
use Rattle.aes_ctr.specs.State.{cell, state}
use Rattle.aes_ctr.specs.Rounds.{sub_bytes, shift_rows, mix_columns, mixed, add_round_key}
use Rattle.aes_ctr.specs.KeyExpansion.{round_key, next_round_key, next_cell, turned_column, x_power}
use Rattle.aes_ctr.specs.Cipher.{after_rounds, encrypt}
use Rattle.aes_ctr.specs.Keystream.{counter_block, stream}
use Rattle.aes_ctr.specs.Crypt.{crypt_from}
use Rattle.aes_ctr.proofs.TableLemmas.{low_double, high_double, double_of, triple_of}

affine_bit_low : (a i : ℕ) → affine_bit a i < 2
unfolding affine_bit
affine_bit_low a i = omega arith

s_box_low : (a : ℕ) → s_box a < 256
unfolding s_box affine
s_box_low a =
    let b = inverse a in
    omega (
      arith,
      affine_bit_low b 0,
      affine_bit_low b 1,
      affine_bit_low b 2,
      affine_bit_low b 3,
      affine_bit_low b 4,
      affine_bit_low b 5,
      affine_bit_low b 6,
      affine_bit_low b 7,
    )

pub times_x_low : (a : ℕ) → a < 256 → times_x a < 256
times_x_low a h =
    ⊎_elim (λ (low : a < 128). subst (λ (n : ℕ). n < 256) (low_double a low) (omega arith))
    (λ (high : 128 ≤ a). let half : 2 * (a - 128) < 2 ^ 8 = omega arith in
    subst (λ (n : ℕ). n < 256) (high_double a high h) (xor_of_8 (2 * (a - 128)) 0x1b half (omega arith)))
    (cases_lt a 128)

x_power_low : (n : ℕ) → x_power n < 256
unfolding x_power
x_power_low zero = omega arith
x_power_low (suc n) = times_x_low (x_power n) (x_power_low n)

-- a state of bytes has only bytes, and zeros past its end
pub state_low : (f : ℕ → ℕ → ℕ) → ((row column : ℕ) → f row column < 256) → (i : ℕ) → get_or (state f) i 0 < 256
state_low f low i =
    ⊎_elim (λ (h : i < 16). subst (λ (n : ℕ). n < 256)
    (sym (get_or-map-range_with_len (λ k. f (k % 4) (k / 4)) 0 16 i i 0 h (omega arith))) (low (i % 4) (i / 4)))
    (λ (h : 16 ≤ i). subst (λ (n : ℕ). n < 256) (sym (get_or_past (state f) i 0 h)) (omega arith))
    (cases_lt i 16)

choice_low : (b : Bool) (n : ℕ) → n < 256 → (if b then n else 0) < 256
choice_low true n h = h
choice_low false n h = omega arith

turned_column_low : (key : List ℕ) (n row : ℕ) → turned_column key n row < 256
unfolding turned_column
turned_column_low key n row = xor_of_8 _ _ (s_box_low _) (choice_low (row == 0) (x_power n) (x_power_low n))

next_cell_low : (key : List ℕ) → ((i : ℕ) → get_or key i 0 < 256) → (n row column : ℕ) → next_cell key n row column < 256
unfolding next_cell
next_cell_low key low n row zero = xor_of_8 _ _ (low _) (turned_column_low key n row)
next_cell_low key low n row (suc column) = xor_of_8 _ _ (low _) (next_cell_low key low n row column)

pub round_key_low : (key : List ℕ) → ((i : ℕ) → get_or key i 0 < 256) → (n i : ℕ) → get_or (round_key key n) i 0 < 256
unfolding round_key next_round_key
round_key_low key low zero i = low i
round_key_low key low (suc n) i =
    state_low (next_cell (round_key key n) n) (λ row column. next_cell_low (round_key key n) (round_key_low key low n) n row column) i

pub sub_bytes_low : (s : List ℕ) (i : ℕ) → get_or (sub_bytes s) i 0 < 256
unfolding sub_bytes
sub_bytes_low s i = state_low (λ row column. s_box (cell s row column)) (λ row column. s_box_low (cell s row column)) i

pub shifted_low : (s : List ℕ) (i : ℕ) → get_or (shift_rows (sub_bytes s)) i 0 < 256
unfolding shift_rows
shifted_low s i =
    state_low (λ row column. cell (sub_bytes s) row ((column + row) % 4)) (λ row column.
    sub_bytes_low s (row + 4 * ((column + row) % 4))) i

-- a byte of MixColumns
mixed_low : (a b c d : ℕ) → a < 256 → b < 256 → c < 256 → d < 256 → mixed a b c d < 256
unfolding mixed
mixed_low a b c d al bl cl dl =
    let double = subst (λ (n : ℕ). n < 256) (double_of a al) (times_x_low a al) in
    let triple = subst (λ (n : ℕ). n < 256) (triple_of b bl) (xor_of_8 (times_x b) b (times_x_low b bl) bl) in
    xor_of_8 _ _ (xor_of_8 _ _ double triple) (xor_of_8 c d cl dl)

mix_columns_low : (s : List ℕ) → ((i : ℕ) → get_or s i 0 < 256) → (i : ℕ) → get_or (mix_columns s) i 0 < 256
unfolding mix_columns
mix_columns_low s low i =
    state_low (λ row column.
    mixed (cell s row column) (cell s ((row + 1) % 4) column) (cell s ((row + 2) % 4) column) (cell s ((row + 3) % 4) column))
    (λ row column.
    mixed_low _ _ _ _ (low (row + 4 * column)) (low ((row + 1) % 4 + 4 * column)) (low ((row + 2) % 4 + 4 * column))
    (low ((row + 3) % 4 + 4 * column))) i

-- a sum of states
pub add_low : (s t : List ℕ) → ((i : ℕ) → get_or s i 0 < 256) → ((i : ℕ) → get_or t i 0 < 256)
    → (i : ℕ) → get_or (add_round_key s t) i 0 < 256
unfolding add_round_key
add_low s t sl tl i =
    state_low (λ row column. bit_xor (cell s row column) (cell t row column)) (λ row column.
    xor_of_8 _ _ (sl (row + 4 * column)) (tl (row + 4 * column))) i

-- the state after rounds on a block of bytes
pub after_rounds_low : (key block : List ℕ) → ((i : ℕ) → get_or key i 0 < 256) → ((i : ℕ) → get_or block i 0 < 256)
    → (n i : ℕ) → get_or (after_rounds key block n) i 0 < 256
unfolding after_rounds
after_rounds_low key block kl bl zero i = add_low block (round_key key 0) bl (round_key_low key kl 0) i
after_rounds_low key block kl bl (suc n) i =
    let before = shift_rows (sub_bytes (after_rounds key block n)) in
    add_low (mix_columns before) (round_key key (suc n)) (mix_columns_low before (shifted_low (after_rounds key block n)))
    (round_key_low key kl (suc n)) i

-- an encryption under a key of bytes
pub encrypt_low : (key block : List ℕ) → ((i : ℕ) → get_or key i 0 < 256) → (i : ℕ) → get_or (encrypt key block) i 0 < 256
unfolding encrypt
encrypt_low key block low i =
    add_low (shift_rows (sub_bytes (after_rounds key block 9))) (round_key key 10) (shifted_low (after_rounds key block 9))
    (round_key_low key low 10) i

-- a list of bytes, and zeros past its end
unfoldable Low : List ℕ → Type 0
Low xs = (i : ℕ) → get_or xs i 0 < 256

low_none : Low []
unfolding Low
low_none i = omega arith

low_first : (x : ℕ) (xs : List ℕ) → Low xs → Low (x % 2 ^ 8 ∷ xs)
unfolding Low
low_first x xs low zero = omega arith
low_first x xs low (suc i) = low i

counter_is_low : (n : ℕ) → Low (counter_block n)
unfolding counter_block
counter_is_low n =
    low_first (n / 2 ^ 120) _ (low_first (n / 2 ^ 112) _ (low_first (n / 2 ^ 104) _ (low_first (n / 2 ^ 96) _
    (low_first (n / 2 ^ 88) _ (low_first (n / 2 ^ 80) _ (low_first (n / 2 ^ 72) _ (low_first (n / 2 ^ 64) _
    (low_first (n / 2 ^ 56) _ (low_first (n / 2 ^ 48) _ (low_first (n / 2 ^ 40) _ (low_first (n / 2 ^ 32) _
    (low_first (n / 2 ^ 24) _ (low_first (n / 2 ^ 16) _ (low_first (n / 2 ^ 8) _ (low_first n [] low_none)))))))))))))))

-- a counter block
pub counter_low : (n i : ℕ) → get_or (counter_block n) i 0 < 256
unfolding Low
counter_low n = counter_is_low n

bytes_low : (xs : List ℕ) → All (λ b. b < 256) xs → (i : ℕ) → get_or xs i 0 < 256
bytes_low xs all i =
    ⊎_elim (λ (h : i < length xs). all i 0 h)
    (λ (h : length xs ≤ i). subst (λ (n : ℕ). n < 256) (sym (get_or_past xs i 0 h)) (omega arith))
    (cases_lt i (length xs))

-- the keystream of a key of bytes
pub stream_low : (key : List ℕ) (p : ℕ) → All (λ b. b < 256) key → stream key p < 256
unfolding stream
stream_low key p all = encrypt_low key (counter_block (p / 16)) (bytes_low key all) (p % 16)

-- bytes under the keystream of a key of bytes
pub crypt_from_low : (key : List ℕ) (p : ℕ) (bs : List ℕ) → All (λ b. b < 256) key → All (λ b. b < 256) bs
    → All (λ b. b < 256) (crypt_from key p bs)
unfolding crypt_from
crypt_from_low key p [] all low = All-nil (λ b. b < 256)
crypt_from_low key p (b ∷ bs) all low =
    All-cons (λ b. b < 256) (bit_xor b (stream key p)) (crypt_from key (p + 1) bs)
    (xor_of_8 b (stream key p) (All-head (λ b. b < 256) b bs low) (stream_low key p all))
    (crypt_from_low key (p + 1) bs all (All-tail (λ b. b < 256) b bs low))
