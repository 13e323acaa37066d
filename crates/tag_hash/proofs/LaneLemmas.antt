-- Vectors whose lanes run side by side.
use Rattle.std.proofs.Common.{zero, suc, [], ◌∷◌, ◌++◌, ◌*◌, length, take, subst, ◌^◌, w32, map, get_or, refl, ◌≡◌, ℕ, ◌+◌, ◌-◌, ◌<◌, ◌≤◌, List, slice_index, sym, ap, ◌∙◌, arith}
use Rattle.std.specs.Borrow.{Bor}
use Rattle.std.specs.Int.{from_be_bytes}
use Rattle.std.proofs.lemmas.List.FromFn.{get_or-map-range_with_len}
use Rattle.sha2.specs.Sha256.{add32, first_words, next_word, round, round_constants, rounds, schedule, small_sigma0, small_sigma1}
use Rattle.sha2.proofs.Schedule256.{rounds_next, slice_index-schedule_next}
use Rattle.tag_hash.specs.Lanes.{lane_bytes, eight, scheduled, together, vectors}

-- a word of the schedules from the four words before it
pub scheduled_next : (b : ℕ → List ℕ) (t k : ℕ) → t + 24 ≤ 64 → k < 8 → (j : ℕ)
    → add32 (add32 (add32 (small_sigma1 (scheduled b (t + (k + 14)) j)) (scheduled b (t + (k + 9)) j))
    (small_sigma0 (scheduled b (t + (k + 1)) j))) (scheduled b (t + k) j) ≡ scheduled b (t + 16 + k) j
scheduled_next b t k le lt j =
    let s : ℕ → ℕ = λ i. slice_index (schedule (b j) 48) i in
    let next = slice_index-schedule_next (b j) 48 (t + 16 + k) (omega arith) (omega arith) in
    let e2 : t + 16 + k - 2 ≡ t + (k + 14) = omega arith in
    let e7 : t + 16 + k - 7 ≡ t + (k + 9) = omega arith in
    let e15 : t + 16 + k - 15 ≡ t + (k + 1) = omega arith in
    let e16 : t + 16 + k - 16 ≡ t + k = omega arith in
    sym (next
    ∙ ap (λ (i : ℕ). add32 (add32 (add32 (small_sigma1 (s i)) (s (t + 16 + k - 7))) (small_sigma0 (s (t + 16 + k - 15)))) (s (t + 16 + k - 16))) e2
    ∙ ap (λ (i : ℕ). add32 (add32 (add32 (small_sigma1 (s (t + (k + 14)))) (s i)) (small_sigma0 (s (t + 16 + k - 15)))) (s (t + 16 + k - 16))) e7
    ∙ ap (λ (i : ℕ). add32 (add32 (add32 (small_sigma1 (s (t + (k + 14)))) (s (t + (k + 9)))) (small_sigma0 (s i))) (s (t + 16 + k - 16))) e15
    ∙ ap (λ (i : ℕ). add32 (add32 (add32 (small_sigma1 (s (t + (k + 14)))) (s (t + (k + 9)))) (small_sigma0 (s (t + (k + 1))))) (s i)) e16)

-- the same places of a schedule, counted from sixteen words on
pub scheduled_from : {V : Type 0} (of : (ℕ → ℕ) → V) (b : ℕ → List ℕ) (t k : ℕ) → of (scheduled b (t + 16 + k)) ≡ of (scheduled b (t + (16 + k)))
scheduled_from of b t k = let e : t + 16 + k ≡ t + (16 + k) = omega arith in ap (λ (i : ℕ). of (scheduled b i)) e

-- a vector of the schedules' next words
pub next_vector : {V : Type 0} (of : (ℕ → ℕ) → V) (b : ℕ → List ℕ) (t k : ℕ) (x : V) → t + 24 ≤ 64 → k < 8
    → x ≡ of (λ j. add32 (add32 (add32 (small_sigma1 (scheduled b (t + (k + 14)) j)) (scheduled b (t + (k + 9)) j))
    (small_sigma0 (scheduled b (t + (k + 1)) j))) (scheduled b (t + k) j))
    → x ≡ of (scheduled b (t + 16 + k))
next_vector of b t k x le lt e = e ∙ (λ i. of (λ j. scheduled_next b t k le lt j i))

-- one round more
pub round_more : (b h : List ℕ) (t : ℕ) → round (rounds h (schedule b 48) t) (slice_index round_constants t) (slice_index (schedule b 48) t) ≡ rounds h (schedule b 48) (t + 1)
round_more b h t = sym (rounds_next h (schedule b 48) t)

-- the words of blocks with the same bytes
first_words_same : (a b : List ℕ) → ((k : ℕ) → slice_index a k ≡ slice_index b k) → (n : ℕ) → first_words a n ≡ first_words b n
unfolding first_words
first_words_same a b same zero = refl
first_words_same a b same (suc n) =
    λ i. first_words_same a b same n i
    ++ from_be_bytes w32 (same (4 * n) i ∷ same (4 * n + 1) i ∷ same (4 * n + 2) i ∷ same (4 * n + 3) i ∷ []) ∷ []

-- what is past a block's end counts as zeros
pub schedule_same : (a b : List ℕ) → ((k : ℕ) → slice_index a k ≡ slice_index b k) → (n : ℕ) → schedule a n ≡ schedule b n
unfolding schedule
schedule_same a b same zero = first_words_same a b same 16
schedule_same a b same (suc n) = ap (λ w. w ++ next_word w (n + 16) ∷ []) (schedule_same a b same n)

-- what holds of each lane
pub each_lane : (P : ℕ → Type 0) → P 0 → P 1 → P 2 → P 3 → P 4 → P 5 → P 6 → P 7 → (j : ℕ) → j < 8 → P j
each_lane P a b c d e f g h zero lt = a
each_lane P a b c d e f g h (suc zero) lt = b
each_lane P a b c d e f g h (suc (suc zero)) lt = c
each_lane P a b c d e f g h (suc (suc (suc zero))) lt = d
each_lane P a b c d e f g h (suc (suc (suc (suc zero)))) lt = e
each_lane P a b c d e f g h (suc (suc (suc (suc (suc zero))))) lt = f
each_lane P a b c d e f g h (suc (suc (suc (suc (suc (suc zero)))))) lt = g
each_lane P a b c d e f g h (suc (suc (suc (suc (suc (suc (suc zero))))))) lt = h
each_lane P a b c d e f g h (suc (suc (suc (suc (suc (suc (suc (suc j)))))))) lt = absurd (omega arith)

-- no byte string, which stands past a list's end
abbrev pub no_bytes : Bor (List ℕ)
no_bytes = record { ref_ptr = (0, 0); now = [] }

-- one of some byte strings
pub bytes_at : (l : List (Bor (List ℕ))) (k : ℕ) (d : Bor (List ℕ)) → d.now ≡ [] → get_or (map (λ (block : Bor (List ℕ)). block.now) l) k [] ≡ (get_or l k d).now
bytes_at [] k d e = sym e
bytes_at (x ∷ l) zero d e = refl
bytes_at (x ∷ l) (suc k) d e = bytes_at l k d e

-- the values that hashes are of, in their order
pub hashed : (f : List ℕ → List ℕ) (hashes : List (List ℕ)) (values : List (Bor (List ℕ))) → length values ≤ length hashes
    → ((j : ℕ) → j < length values → get_or hashes j [] ≡ f (lane_bytes values j)) → take (length values) hashes ≡ map (λ (value : Bor (List ℕ)). f value.now) values
hashed f hashes [] le each = refl
hashed f [] (x ∷ values) le each = absurd (omega arith)
hashed f (y ∷ hashes) (x ∷ values) le each =
    λ i. each 0 (omega arith) i ∷ hashed f hashes values (omega arith) (λ j lt. each (suc j) (omega arith)) i

vectors_at : {V : Type 0} (of : (ℕ → ℕ) → V) (n : ℕ) (f : ℕ → ℕ → ℕ) (k : ℕ) (d : V) → k < n → get_or (vectors of n f) k d ≡ of (f k)
vectors_at of n f k d lt = get_or-map-range_with_len (λ k. of (f k)) 0 n k k d lt (omega arith)

-- a vector of words, one of each list
pub vector_of_lane : {V : Type 0} (of : (ℕ → ℕ) → V) (v : List V) (h : ℕ → List ℕ) (k : ℕ) (d : V) → v ≡ together of 8 h → k < 8 → get_or v k d ≡ of (λ j. slice_index (h j) k)
vector_of_lane of v h k d e lt = rw e (vectors_at of 8 (λ k j. slice_index (h j) k) k d lt)

pub eight_at : (f : ℕ → ℕ) (j : ℕ) → j < 8 → slice_index (eight f) j ≡ f j
eight_at f = each_lane (λ j. slice_index (eight f) j ≡ f j) refl refl refl refl refl refl refl refl

-- one of some values, behind a prefix that leaves it short
pub short_at : (p : List ℕ) (values : List (Bor (List ℕ))) (j : ℕ) → length p + length (lane_bytes values j) < 2 ^ 60 → length p + length (get_or values j no_bytes).now < 2 ^ 60
short_at p values j short = subst (λ (v : List ℕ). length p + length v < 2 ^ 60) (bytes_at values j no_bytes refl) short
