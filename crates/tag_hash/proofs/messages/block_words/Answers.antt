use Rattle.std.proofs.Common.{◌≡◌, ℕ, ◌+◌, ◌-◌, ◌*◌, ◌<◌, ◌≤◌, length, List, ◌++◌, take, drop, slice_index, get_or, refl, sym, ap, ◌∙◌, arith}
use Rattle.std.specs.Borrow.{Bor}
use Rattle.sha2.specs.Sha256.{padded_message}
use Rattle.tag_hash.specs.Lanes.{lane_bytes}
use Rattle.tag_hash.proofs.LaneLemmas.{bytes_at, each_lane, no_bytes, short_at}
use Rattle.tag_hash.proofs.PaddedMessage.{block_of_value}
use Rattle.tag_hash.proofs.messages.block_words.Goals as goal

same_at : (f : List ℕ → List ℕ) (values : List (Bor (List ℕ))) (j : ℕ) (x : List ℕ) → ((k : ℕ) → slice_index x k ≡ slice_index (f (get_or values j no_bytes).now) k)
    → (k : ℕ) → slice_index x k ≡ slice_index (f (lane_bytes values j)) k
same_at f values j x e k = e k ∙ ap (λ (v : List ℕ). slice_index (f v) k) (sym (bytes_at values j no_bytes refl))

-- a block that lies within a value, from the value's own bytes
within_at : (p : List ℕ) (values : List (Bor (List ℕ))) (n j : ℕ) (x : List ℕ) → length p ≤ 64 * n → 64 * n + 64 ≤ length p + length (lane_bytes values j)
    → x ≡ take 64 (drop (64 * n - length p) (get_or values j no_bytes).now)
    → (k : ℕ) → slice_index x k ≡ slice_index (take 64 (drop (n * 64) (padded_message (p ++ lane_bytes values j)))) k
within_at p values n j x past fits e k =
    let size : 64 * n - length p + 64 - (64 * n - length p) ≡ 64 = omega arith in
    ap (λ (l : List ℕ). slice_index l k)
    (e ∙ ap (λ (v : List ℕ). take 64 (drop (64 * n - length p) v)) (sym (bytes_at values j no_bytes refl))
    ∙ ap (λ (m : ℕ). take m (drop (64 * n - length p) (lane_bytes values j))) (sym size)
    ∙ block_of_value p (lane_bytes values j) n past fits)

pub returns : goal.returns
returns g c =
    let block : List ℕ → List ℕ = λ v. take 64 (drop (c.args.n * 64) (padded_message (c.args.prefix.now ++ v))) in
    c.first_words-2.ensures (λ j. block (lane_bytes c.args.values.now j))
    (each_lane _ (same_at block c.args.values.now 0 _ c.block_of.ensures) (same_at block c.args.values.now 1 _ c.block_of-2.ensures) (same_at block c.args.values.now 2 _ c.block_of-3.ensures) (same_at block c.args.values.now 3 _ c.block_of-4.ensures) (same_at block c.args.values.now 4 _ c.block_of-5.ensures) (same_at block c.args.values.now 5 _ c.block_of-6.ensures) (same_at block c.args.values.now 6 _ c.block_of-7.ensures) (same_at block c.args.values.now 7 _ c.block_of-8.ensures))

pub block_of-requires-clause-short : goal.block_of-requires-clause-short
block_of-requires-clause-short g c = short_at c.args.prefix.now c.args.values.now 0 (c.requires.short 0 (omega arith))

pub block_of-requires-2-clause-short : goal.block_of-requires-2-clause-short
block_of-requires-2-clause-short g c = short_at c.args.prefix.now c.args.values.now 1 (c.requires.short 1 (omega arith))

pub block_of-requires-3-clause-short : goal.block_of-requires-3-clause-short
block_of-requires-3-clause-short g c = short_at c.args.prefix.now c.args.values.now 2 (c.requires.short 2 (omega arith))

pub block_of-requires-4-clause-short : goal.block_of-requires-4-clause-short
block_of-requires-4-clause-short g c = short_at c.args.prefix.now c.args.values.now 3 (c.requires.short 3 (omega arith))

pub block_of-requires-5-clause-short : goal.block_of-requires-5-clause-short
block_of-requires-5-clause-short g c = short_at c.args.prefix.now c.args.values.now 4 (c.requires.short 4 (omega arith))

pub block_of-requires-6-clause-short : goal.block_of-requires-6-clause-short
block_of-requires-6-clause-short g c = short_at c.args.prefix.now c.args.values.now 5 (c.requires.short 5 (omega arith))

pub block_of-requires-7-clause-short : goal.block_of-requires-7-clause-short
block_of-requires-7-clause-short g c = short_at c.args.prefix.now c.args.values.now 6 (c.requires.short 6 (omega arith))

pub block_of-requires-8-clause-short : goal.block_of-requires-8-clause-short
block_of-requires-8-clause-short g c = short_at c.args.prefix.now c.args.values.now 7 (c.requires.short 7 (omega arith))

pub inside-requires-then-at-prefix-7 : goal.inside-requires-then-at-prefix-7
inside-requires-then-at-prefix-7 g c = omega (arith, c.requires.within 7 (omega arith), ap length (bytes_at c.args.values.now 7 no_bytes refl))

pub returns-then-at-prefix : goal.returns-then-at-prefix
returns-then-at-prefix g c =
    let p = c.args.prefix.now in
    let values = c.args.values.now in
    let fits : (j : ℕ) → j < 8 → 64 * c.args.n + 64 ≤ length p + length (lane_bytes values j) = λ j lt. omega (arith, c.requires.within j lt) in
    let same : (j : ℕ) (x : List ℕ) → j < 8 → x ≡ take 64 (drop (64 * c.args.n - length p) (get_or values j no_bytes).now)
    → (k : ℕ) → slice_index x k ≡ slice_index (take 64 (drop (c.args.n * 64) (padded_message (p ++ lane_bytes values j)))) k =
    λ j x lt e. within_at p values c.args.n j x c.if-prefix-at.true (fits j lt) e in
    c.first_words.ensures (λ j. take 64 (drop (c.args.n * 64) (padded_message (p ++ lane_bytes values j))))
    (each_lane _ (same 0 _ (omega arith) c.inside.ensures) (same 1 _ (omega arith) c.inside-then-at-prefix.ensures) (same 2 _ (omega arith) c.inside-then-at-prefix-2.ensures) (same 3 _ (omega arith) c.inside-then-at-prefix-3.ensures) (same 4 _ (omega arith) c.inside-then-at-prefix-4.ensures) (same 5 _ (omega arith) c.inside-then-at-prefix-5.ensures) (same 6 _ (omega arith) c.inside-then-at-prefix-6.ensures) (same 7 _ (omega arith) c.inside-then-at-prefix-7.ensures))
