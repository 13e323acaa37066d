-- Doubles of bytes bit by bit, and MixColumns by sums of neighbours.
use Rattle.std.proofs.Common.{◌≡◌, ℕ, ◌+◌, ◌*◌, ◌%◌, ◌<◌, List, [], ◌∷◌, map, get_or, bit_xor, refl, ap, sym, ◌∙◌, arith}
use Rattle.std.specs.Int.{bit_at}
use Rattle.std.specs.List.{range_with_len}
use Rattle.std.specs.Int.Bits.{xor_assoc}
use Rattle.std.proofs.lemmas.Nat.{xor_comm, xor_lt}
use Rattle.std.proofs.lemmas.Nat.Bits.{bit_at-lt}
use Rattle.aes_ctr.specs.Field.{times, times_x}
use Rattle.aes_ctr.specs.State.{cell, state}
use Rattle.aes_ctr.specs.Rounds.{mixed, mix_columns, add_round_key}
use Rattle.aes_ctr.specs.Planes.{byte_of, sliced, slices, raised_rows, doubled}
use Rattle.aes_ctr.proofs.BitLemmas.{bits, below_8, bit_of_xor, byte_of_xor, same_bytes}
use Rattle.aes_ctr.proofs.ByteLemmas.{add_low, state_low, times_x_low}
use Rattle.aes_ctr.proofs.TableLemmas.{same_values, double_of, triple_of}

-- the bits of a byte's double
double_bits : ℕ → List ℕ
double_bits v =
    bit_at v 7 ∷ bit_xor (bit_at v 0) (bit_at v 7) ∷ bit_at v 1 ∷ bit_xor (bit_at v 2) (bit_at v 7)
    ∷ bit_xor (bit_at v 3) (bit_at v 7) ∷ bit_at v 4 ∷ bit_at v 5 ∷ bit_at v 6 ∷ []

all_doubles : map (λ v. bits (times_x v)) (range_with_len 0 256) ≡ map double_bits (range_with_len 0 256)
unfolding bits double_bits times_x
all_doubles = refl

double_at : (v k : ℕ) → v < 256 → get_or (bits (times_x v)) k 0 ≡ get_or (double_bits v) k 0
double_at v k lt = ap (λ (l : List ℕ). get_or l k 0) (same_values (λ x. bits (times_x x)) double_bits 0 256 all_doubles v (omega arith) lt)

-- doubles of eight bytes, slice by slice
pub double_slices : (a : ℕ → ℕ) → ((j : ℕ) → a j < 256)
    → ◌≡◌ {A = List ℕ} (sliced a 7 ∷ bit_xor (sliced a 0) (sliced a 7) ∷ sliced a 1 ∷ bit_xor (sliced a 2) (sliced a 7)
    ∷ bit_xor (sliced a 3) (sliced a 7) ∷ sliced a 4 ∷ sliced a 5 ∷ sliced a 6 ∷ []) (slices (λ j. times_x (a j)))
unfolding sliced bits double_bits
double_slices a low =
    let both : (x y : ℕ) → bit_xor (sliced a x) (sliced a y) ≡ byte_of (λ j. bit_xor (bit_at (a j) x) (bit_at (a j) y)) =
    λ x y. byte_of_xor (λ j. bit_at (a j) x) (λ j. bit_at (a j) y) (λ j. bit_at-lt (a j) x) (λ j. bit_at-lt (a j) y) in
    let e0 : sliced a 7 ≡ sliced (λ j. times_x (a j)) 0 = sym (λ i. byte_of (λ j. double_at (a j) 0 (low j) i)) in
    let e1 : bit_xor (sliced a 0) (sliced a 7) ≡ sliced (λ j. times_x (a j)) 1 = both 0 7 ∙ (sym (λ i. byte_of (λ j. double_at (a j) 1 (low j) i))) in
    let e2 : sliced a 1 ≡ sliced (λ j. times_x (a j)) 2 = sym (λ i. byte_of (λ j. double_at (a j) 2 (low j) i)) in
    let e3 : bit_xor (sliced a 2) (sliced a 7) ≡ sliced (λ j. times_x (a j)) 3 = both 2 7 ∙ (sym (λ i. byte_of (λ j. double_at (a j) 3 (low j) i))) in
    let e4 : bit_xor (sliced a 3) (sliced a 7) ≡ sliced (λ j. times_x (a j)) 4 = both 3 7 ∙ (sym (λ i. byte_of (λ j. double_at (a j) 4 (low j) i))) in
    let e5 : sliced a 4 ≡ sliced (λ j. times_x (a j)) 5 = sym (λ i. byte_of (λ j. double_at (a j) 5 (low j) i)) in
    let e6 : sliced a 5 ≡ sliced (λ j. times_x (a j)) 6 = sym (λ i. byte_of (λ j. double_at (a j) 6 (low j) i)) in
    let e7 : sliced a 6 ≡ sliced (λ j. times_x (a j)) 7 = sym (λ i. byte_of (λ j. double_at (a j) 7 (low j) i)) in
    (λ i. e0 i ∷ e1 i ∷ e2 i ∷ e3 i ∷ e4 i ∷ e5 i ∷ e6 i ∷ e7 i ∷ [])

-- sums of sums in another order
exchanged : (x y z w : ℕ) → bit_xor (bit_xor x y) (bit_xor z w) ≡ bit_xor (bit_xor x z) (bit_xor y w)
exchanged x y z w =
    xor_assoc x y (bit_xor z w)
    ∙ ap (bit_xor x) (sym (xor_assoc y z w) ∙ ap (λ (n : ℕ). bit_xor n w) (xor_comm y z) ∙ xor_assoc z y w)
    ∙ sym (xor_assoc x z (bit_xor y w))

-- the double of a sum
module _ (a b : ℕ) (al : a < 256) (bl : b < 256) where
  both : bit_xor a b < 256
  both = xor_lt 8 a b al bl

  from_one : (j k : ℕ) → ((v : ℕ) → v < 256 → bit_at (times_x v) j ≡ bit_at v k)
      → bit_at (times_x (bit_xor a b)) j ≡ bit_at (bit_xor (times_x a) (times_x b)) j
  from_one j k is =
      is (bit_xor a b) both ∙ bit_of_xor k a b
      ∙ sym (bit_of_xor j (times_x a) (times_x b)
      ∙ ap (λ (n : ℕ). bit_xor n (bit_at (times_x b) j)) (is a al)
      ∙ ap (bit_xor (bit_at a k)) (is b bl))

  from_two : (j k m : ℕ) → ((v : ℕ) → v < 256 → bit_at (times_x v) j ≡ bit_xor (bit_at v k) (bit_at v m))
      → bit_at (times_x (bit_xor a b)) j ≡ bit_at (bit_xor (times_x a) (times_x b)) j
  from_two j k m is =
      is (bit_xor a b) both
      ∙ ap (λ (n : ℕ). bit_xor n (bit_at (bit_xor a b) m)) (bit_of_xor k a b)
      ∙ ap (bit_xor (bit_xor (bit_at a k) (bit_at b k))) (bit_of_xor m a b)
      ∙ exchanged (bit_at a k) (bit_at b k) (bit_at a m) (bit_at b m)
      ∙ sym (bit_of_xor j (times_x a) (times_x b)
      ∙ ap (λ (n : ℕ). bit_xor n (bit_at (times_x b) j)) (is a al)
      ∙ ap (bit_xor (bit_xor (bit_at a k) (bit_at a m))) (is b bl))

  pub double_of_sum : times_x (bit_xor a b) ≡ bit_xor (times_x a) (times_x b)
  unfolding bits double_bits
  double_of_sum =
      same_bytes _ _ (times_x_low (bit_xor a b) both) (xor_lt 8 (times_x a) (times_x b) (times_x_low a al) (times_x_low b bl))
      (below_8 (λ j. bit_at (times_x (bit_xor a b)) j ≡ bit_at (bit_xor (times_x a) (times_x b)) j)
      (from_one 0 7 (λ v lt. double_at v 0 lt)) (from_two 1 0 7 (λ v lt. double_at v 1 lt))
      (from_one 2 1 (λ v lt. double_at v 2 lt)) (from_two 3 2 7 (λ v lt. double_at v 3 lt))
      (from_two 4 3 7 (λ v lt. double_at v 4 lt)) (from_one 5 4 (λ v lt. double_at v 5 lt))
      (from_one 6 5 (λ v lt. double_at v 6 lt)) (from_one 7 6 (λ v lt. double_at v 7 lt)))

  -- a byte of MixColumns from the sum of it and the one below, that one, and the sum of the other two
  mixed_by_sums : (c d : ℕ) → bit_xor (bit_xor (times_x (bit_xor a b)) b) (bit_xor c d) ≡ mixed a b c d
  unfolding mixed
  mixed_by_sums c d =
      ap (λ (n : ℕ). bit_xor n (bit_xor c d))
      (ap (λ (n : ℕ). bit_xor n b) double_of_sum ∙ xor_assoc (times_x a) (times_x b) b
      ∙ ap (λ (n : ℕ). bit_xor n (bit_xor (times_x b) b)) (double_of a al) ∙ ap (bit_xor (times 2 a)) (triple_of b bl))

-- MixColumns by sums of neighbours
pub mix_by_sums : (s : List ℕ) → ((i : ℕ) → get_or s i 0 < 256)
    → (let sums = add_round_key s (raised_rows 1 s) in
    add_round_key (add_round_key (doubled sums) (raised_rows 1 s)) (raised_rows 2 sums)) ≡ mix_columns s
unfolding add_round_key raised_rows doubled mix_columns
mix_by_sums s low = λ i. state (λ row column.
    mixed_by_sums (cell s row column) (cell s ((row + 1) % 4) column) (low (row + 4 * column)) (low ((row + 1) % 4 + 4 * column))
    (cell s ((row + 2) % 4) column) (cell s ((row + 3) % 4) column) i)

-- sums of neighbours are bytes
pub sums_low : (s : List ℕ) → ((i : ℕ) → get_or s i 0 < 256) → (i : ℕ) → get_or (add_round_key s (raised_rows 1 s)) i 0 < 256
unfolding raised_rows
sums_low s low i =
    add_low s (raised_rows 1 s) low
    (state_low (λ row column. cell s ((row + 1) % 4) column) (λ row column. low ((row + 1) % 4 + 4 * column))) i
