-- Computations side by side in the lanes of vectors of any type: `of f` is the vector with f j in lane j.
use Rattle.std.specs.Prelude.{◌≡◌, ◌<◌, ℕ, ◌+◌, List, [], ◌∷◌, map, slice_index, slice_index_or}
use Rattle.std.specs.Borrow.{Bor}
use Rattle.std.specs.List.{range_with_len}
use Rattle.sha2.specs.Sha256.{rounds, schedule}

-- vectors of four lanes
abbrev pub four : (ℕ → ℕ) → List ℕ
four f = f 0 ∷ f 1 ∷ f 2 ∷ f 3 ∷ []

-- vectors of eight lanes
abbrev pub eight : (ℕ → ℕ) → List ℕ
eight f = f 0 ∷ f 1 ∷ f 2 ∷ f 3 ∷ f 4 ∷ f 5 ∷ f 6 ∷ f 7 ∷ []

-- n vectors, with f k j in lane j of vector k
abbrev pub vectors : {V : Type 0} → ((ℕ → ℕ) → V) → ℕ → (ℕ → ℕ → ℕ) → List V
vectors of n f = map (λ k. of (f k)) (range_with_len 0 n)

-- n vectors, with the first n words of h j in lane j
abbrev pub together : {V : Type 0} → ((ℕ → ℕ) → V) → ℕ → (ℕ → List ℕ) → List V
together of n h = vectors of n (λ k j. slice_index (h j) k)

-- word t of the schedule of block b j
abbrev pub scheduled : (ℕ → List ℕ) → ℕ → ℕ → ℕ
scheduled b t j = slice_index (schedule (b j) 48) t

-- sixteen vectors of the schedules' words from word t on
abbrev pub words_from : {V : Type 0} → ((ℕ → ℕ) → V) → (ℕ → List ℕ) → ℕ → List V
words_from of b t = vectors of 16 (λ k j. scheduled b (t + k) j)

-- the working variables after t rounds of block b j from the hash value h j
abbrev pub variables_at : {V : Type 0} → ((ℕ → ℕ) → V) → (ℕ → List ℕ) → (ℕ → List ℕ) → ℕ → List V
variables_at of b h t = together of 8 (λ j. rounds (h j) (schedule (b j) 48) t)

-- bytes j of some
abbrev pub lane_bytes : List (Bor (List ℕ)) → ℕ → List ℕ
lane_bytes all j = slice_index_or (map (λ bytes. bytes.now) all) j []

-- that eight blocks are those that b gives by their lanes; what is past a block's end counts as zeros
abbrev pub AreLaneBlocks : List (Bor (List ℕ)) → (ℕ → List ℕ) → Type 0
AreLaneBlocks blocks b = (j : ℕ) → j < 8 → (k : ℕ) → slice_index (lane_bytes blocks j) k ≡ slice_index (b j) k
