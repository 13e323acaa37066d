-- Blocks made byte by byte, and the sum of weighted blocks.
use Rattle.std.proofs.Common.{◌≡◌, ℕ, zero, suc, ◌+◌, ◌<◌, List, [], ◌∷◌, length, get_or, slice_index, slice_index_or, replicate, Bor, refl, sym, ap, ◌∙◌, arith, add-one}
use Rattle.std.proofs.lemmas.List.{get_or-replicate, length-replicate}
use Rattle.std.proofs.lemmas.List.FromFn.{fill_by_all, length-map-range_with_len, get_or-map-range_with_len}
use Rattle.std.specs.Int.Bits.{bit_xor}
use Rattle.gf_field.specs.Field.{xor_below, mul_of}
use Rattle.erasure.specs.Code.{column}
use Rattle.erasure.specs.Blocks.{weight_of, value_through, size_of, block_through}
use Rattle.erasure.specs.Given.{contents_of, HaveOneLength}

-- what a read past the end stands for
abbrev pub none : Bor (List ℕ)
none = record { ref_ptr = (0, 0); now = [] }

-- ---- places of lists
pub length-column : (blocks : List (List ℕ)) (p : ℕ) → length (column blocks p) ≡ length blocks
length-column [] p = refl
length-column (b ∷ bs) p = ap suc (length-column bs p)

pub column_at : (blocks : List (List ℕ)) (p j : ℕ) → j < length blocks → slice_index (column blocks p) j ≡ slice_index (slice_index_or blocks j []) p
column_at [] p j lt = absurd (omega arith)
column_at (b ∷ bs) p zero lt = refl
column_at (b ∷ bs) p (suc j) lt = column_at bs p j (omega arith)

pub length-contents_of : (blocks : List (Bor (List ℕ))) → length (contents_of blocks) ≡ length blocks
length-contents_of [] = refl
length-contents_of (b ∷ bs) = ap suc (length-contents_of bs)

pub content_at : (blocks : List (Bor (List ℕ))) (j : ℕ) (d : Bor (List ℕ)) → j < length blocks
    → slice_index_or (contents_of blocks) j [] ≡ (get_or blocks j d).now
content_at [] j d lt = absurd (omega arith)
content_at (b ∷ bs) zero d lt = refl
content_at (b ∷ bs) (suc j) d lt = content_at bs j d (omega arith)

pub one_length_at : (blocks : List (Bor (List ℕ))) (j : ℕ) (d : Bor (List ℕ)) → HaveOneLength (contents_of blocks) → j < length blocks
    → length (get_or blocks j d).now ≡ size_of (contents_of blocks)
one_length_at blocks j d same lt =
    sym (ap length (content_at blocks j d lt)) ∙ same j [] (omega (arith, length-contents_of blocks))

-- ---- a block through others
pub length-block_through : (places : List ℕ) (blocks : List (List ℕ)) (x : ℕ) → length (block_through places blocks x) ≡ size_of blocks
unfolding block_through
length-block_through places blocks x = length-map-range_with_len (λ at. value_through places (column blocks at) x) 0 (size_of blocks)

pub block_through_at : (places : List ℕ) (blocks : List (List ℕ)) (x p : ℕ) → p < size_of blocks
    → slice_index (block_through places blocks x) p ≡ value_through places (column blocks p) x
unfolding block_through
block_through_at places blocks x p lt =
    get_or-map-range_with_len (λ at. value_through places (column blocks at) x) 0 (size_of blocks) p p 0 lt (omega arith)

-- the bytes of the first n weighted blocks, added
pub record Summed (places : List ℕ) (blocks : List (List ℕ)) (x n : ℕ) (sum : List ℕ) : Type 0 where
  pub long : length sum ≡ size_of blocks
  pub at : (p : ℕ) → p < size_of blocks → slice_index sum p ≡ xor_below n (λ j. mul_of (weight_of places j x) (slice_index (column blocks p) j))

pub summed_start : (places : List ℕ) (blocks : List (List ℕ)) (x size : ℕ) (sum : List ℕ) → size ≡ size_of blocks
    → sum ≡ replicate size 0 → Summed places blocks x 0 sum
summed_start places blocks x size sum es e = record {
  long = ap length e ∙ length-replicate size 0 ∙ es;
  at = λ p lt. ap (λ (xs : List ℕ). slice_index xs p) e ∙ get_or-replicate size p 0 0 (omega arith);
}

pub summed_next : (places : List ℕ) (blocks : List (List ℕ)) (x n : ℕ) (sum more block : List ℕ) (weight : ℕ)
    → Summed places blocks x n sum → n < length blocks → length more ≡ length sum → weight ≡ weight_of places n x
    → slice_index_or blocks n [] ≡ block
    → ((p : ℕ) → p < length more → slice_index more p ≡ bit_xor (slice_index sum p) (mul_of weight (slice_index block p)))
    → Summed places blocks x (n + 1) more
summed_next places blocks x n sum more block weight s lt long ew eb h = record {
  long = long ∙ s.long;
  at = λ p less.
      h p (omega (arith, s.long))
      ∙ ap (λ (v : ℕ). bit_xor v (mul_of weight (slice_index block p))) (s.at p less)
      ∙ ap (bit_xor (xor_below n (λ j. mul_of (weight_of places j x) (slice_index (column blocks p) j))))
      (ap (λ (w : ℕ). mul_of w (slice_index block p)) ew
      ∙ ap (mul_of (weight_of places n x)) (ap (λ (b : List ℕ). slice_index b p) (sym eb) ∙ sym (column_at blocks p n lt)))
      ∙ ap (λ (m : ℕ). xor_below m (λ j. mul_of (weight_of places j x) (slice_index (column blocks p) j))) (sym (add-one n));
}

pub summed_end : (places : List ℕ) (blocks : List (List ℕ)) (x n : ℕ) (sum : List ℕ) → Summed places blocks x n sum
    → n ≡ length places → sum ≡ block_through places blocks x
unfolding block_through value_through
summed_end places blocks x n sum s e =
    fill_by_all (λ at. value_through places (column blocks at) x) sum (size_of blocks) 0 s.long
    (λ p lt. s.at p lt ∙ ap (λ (m : ℕ). xor_below m (λ j. mul_of (weight_of places j x) (slice_index (column blocks p) j))) e)
