use Rattle.std.proofs.Common.{◌^◌, ◌≡◌, ℕ, ◌+◌, ◌-◌, ◌/◌, ◌<◌, ◌≤◌, ◌*◌, take, drop, List, [], ◌∷◌, ◌++◌, length, slice_index, slice_index_or, get_or, inl, inr, refl, sym, ap, ◌∙◌, arith, length-append}
use Rattle.std.specs.Borrow.{Bor}
use Rattle.std.proofs.lemmas.Bool.{cases_lt}
use Rattle.sha2.specs.Sha256.{digest_bytes, hash_after, initial_hash_256, padded_message, sha256}
use Rattle.sha2.proofs.Absorbing256.{hash_after_next}
use Rattle.tag_hash.specs.Lanes.{lane_bytes, together}
use Rattle.tag_hash.proofs.LaneLemmas.{bytes_at, each_lane, no_bytes, short_at}
use Rattle.tag_hash.proofs.PaddedMessage.{length-padded}
use Rattle.tag_hash.proofs.messages.sha256_each.Goals as goal
use Rattle.tag_hash.proofs.messages.sha256_each.Goals.{then-first_end-n, else-first_end-n}

-- after its last block, a message's digest is that of its hash value
at_its_end : (p v : List ℕ) (n : ℕ) → n ≡ (length p + length v + 72) / 64
    → digest_bytes (hash_after initial_hash_256 (padded_message (p ++ v)) n) 8 ≡ sha256 (p ++ v)
unfolding sha256
at_its_end p v n e =
    let count : n ≡ length (padded_message (p ++ v)) / 64 = omega (arith, length-padded (p ++ v), length-append p v) in
    ap (λ (n : ℕ). digest_bytes (hash_after initial_hash_256 (padded_message (p ++ v)) n) 8) count

-- how many blocks a message has
blocks_of : (p : List ℕ) (values : List (Bor (List ℕ))) (j : ℕ) {n : ℕ} → n ≡ (length p + length (get_or values j no_bytes).now + 72) / 64
    → n ≡ (length p + length (lane_bytes values j) + 72) / 64
blocks_of p values j e = e ∙ ap (λ (v : List ℕ). (length p + length v + 72) / 64) (sym (bytes_at values j no_bytes refl))

-- a message has a block, and not too many
some_blocks : (p v : List ℕ) {n : ℕ} → n ≡ (length p + length v + 72) / 64 → 0 < n
some_blocks p v e = omega arith

few_blocks : (p : List ℕ) (values : List (Bor (List ℕ))) (j : ℕ) {n : ℕ} → length p + length (lane_bytes values j) < 2 ^ 60
    → n ≡ (length p + length (get_or values j no_bytes).now + 72) / 64 → n < 2 ^ 55
few_blocks p values j short e = omega (arith, short_at p values j short)

within_at : (values : List (Bor (List ℕ))) (j : ℕ) {n : ℕ} → n ≤ length (get_or values j no_bytes).now → n ≤ length (lane_bytes values j)
within_at values j le = omega (arith, ap length (bytes_at values j no_bytes refl))

-- counts of blocks, beside that of the block at hand
at_once : {count n : ℕ} → n < count → count ≤ n + 1 → count ≡ n + 1
at_once gt le = omega arith

not_again : {count n : ℕ} → count ≤ n → count ≡ n + 1 → ⊥
not_again le e = omega arith

not_yet : {first count n : ℕ} → n < first → first ≤ count → count ≤ n → ⊥
not_yet lt le at = omega arith

below_all : {n longest m : ℕ} → n < longest → longest < m → n < m
below_all lt all = omega arith

less_left : {n longest : ℕ} → n < longest → longest - (n + 1) < longest - n
less_left lt = omega arith

none_before : {count : ℕ} → 0 < count → count ≤ 0 → ⊥
none_before some none = omega arith

pub loop-n-init : goal.loop-n-init
unfolding hash_after
loop-n-init g c =
    let some : (j : ℕ) → j < 8 → 0 < slice_index (c.block_count.result ∷ c.block_count-2.result ∷ c.block_count-3.result ∷ c.block_count-4.result ∷ c.block_count-5.result ∷ c.block_count-6.result ∷ c.block_count-7.result ∷ c.block_count-8.result ∷ []) j =
    each_lane _ (some_blocks c.args.prefix.now _ c.block_count.ensures) (some_blocks c.args.prefix.now _ c.block_count-2.ensures) (some_blocks c.args.prefix.now _ c.block_count-3.ensures) (some_blocks c.args.prefix.now _ c.block_count-4.ensures) (some_blocks c.args.prefix.now _ c.block_count-5.ensures) (some_blocks c.args.prefix.now _ c.block_count-6.ensures) (some_blocks c.args.prefix.now _ c.block_count-7.ensures) (some_blocks c.args.prefix.now _ c.block_count-8.ensures) in
    record {
      taken = c.initial-state.ensures;
      ended = λ j lt lane none. absurd (none_before (some j lt) none);
      long = refl;
    }

pub loop-n-preserved : goal.loop-n-preserved
loop-n-preserved g c =
    let p = c.args.prefix.now in
    let values = c.args.values.now in
    let v : ℕ → List ℕ = lane_bytes values in
    let of = g.L.Words.of in
    let hash : ℕ → List ℕ = λ j. hash_after initial_hash_256 (padded_message (p ++ v j)) (c.loop-n.n + 1) in
    let counts : List ℕ = c.block_count.result ∷ c.block_count-2.result ∷ c.block_count-3.result ∷ c.block_count-4.result ∷ c.block_count-5.result ∷ c.block_count-6.result ∷ c.block_count-7.result ∷ c.block_count-8.result ∷ [] in
    let count : (j : ℕ) → j < 8 → slice_index counts j ≡ (length p + length (v j) + 72) / 64 =
    each_lane _ (blocks_of p values 0 c.block_count.ensures) (blocks_of p values 1 c.block_count-2.ensures) (blocks_of p values 2 c.block_count-3.ensures) (blocks_of p values 3 c.block_count-4.ensures) (blocks_of p values 4 c.block_count-5.ensures) (blocks_of p values 5 c.block_count-6.ensures) (blocks_of p values 6 c.block_count-7.ensures) (blocks_of p values 7 c.block_count-8.ensures) in
    let taken : c.compressed-state.result ≡ together of 8 hash =
    c.compressed-state.ensures (λ j. take 64 (drop (c.loop-n.n * 64) (padded_message (p ++ v j)))) (λ j. hash_after initial_hash_256 (padded_message (p ++ v j)) c.loop-n.n) c.block_words-words.ensures c.loop-n.invariant.taken
    ∙ (λ i. together of 8 (λ j. sym (hash_after_next initial_hash_256 (padded_message (p ++ v j)) c.loop-n.n) i)) in
    let ended : (j : ℕ) → j < 8 → j < g.L.Words.lanes → slice_index counts j ≤ c.loop-n.n + 1 → slice_index_or c.if-first_end-n.digests j [] ≡ sha256 (p ++ v j) = λ j lt lane le.
    elim c.if-first_end-n.branch [
      | then-first_end-n w ↦
          rw w.digests-is
          (elim (cases_lt c.loop-n.n (slice_index counts j)) [
            | inl now ↦
                let e : slice_index counts j ≡ c.loop-n.n + 1 = at_once now le in
                w.keep_ended.ensures.ended hash j taken lt lane e ∙ at_its_end p (v j) (c.loop-n.n + 1) (sym e ∙ count j lt)
            | inr before ↦
                w.keep_ended.ensures.others j (λ e. absurd (not_again before e)) ∙ c.loop-n.invariant.ended j lt lane before
          ])
      | else-first_end-n w ↦ absurd (not_yet w.if-first_end-n.false (c.shortest_of-first_end.ensures j lt) le)
    ] in
    record {
      taken = taken;
      ended = ended;
      long = elim c.if-first_end-n.branch [
        | then-first_end-n w ↦ ap length w.digests-is ∙ omega arith
        | else-first_end-n w ↦ ap length w.digests-is ∙ c.loop-n.invariant.long
      ];
    }

pub returns : goal.returns
returns g c = λ j lt lane. c.loop-n.invariant.ended j lt lane (omega (arith, c.longest_of-longest.ensures.each j lt))

pub block_count-requires : goal.block_count-requires
block_count-requires g c = short_at c.args.prefix.now c.args.values.now 0 (c.requires.short 0 (omega arith))

pub block_count-requires-2 : goal.block_count-requires-2
block_count-requires-2 g c = short_at c.args.prefix.now c.args.values.now 1 (c.requires.short 1 (omega arith))

pub block_count-requires-3 : goal.block_count-requires-3
block_count-requires-3 g c = short_at c.args.prefix.now c.args.values.now 2 (c.requires.short 2 (omega arith))

pub block_count-requires-4 : goal.block_count-requires-4
block_count-requires-4 g c = short_at c.args.prefix.now c.args.values.now 3 (c.requires.short 3 (omega arith))

pub block_count-requires-5 : goal.block_count-requires-5
block_count-requires-5 g c = short_at c.args.prefix.now c.args.values.now 4 (c.requires.short 4 (omega arith))

pub block_count-requires-6 : goal.block_count-requires-6
block_count-requires-6 g c = short_at c.args.prefix.now c.args.values.now 5 (c.requires.short 5 (omega arith))

pub block_count-requires-7 : goal.block_count-requires-7
block_count-requires-7 g c = short_at c.args.prefix.now c.args.values.now 6 (c.requires.short 6 (omega arith))

pub block_count-requires-8 : goal.block_count-requires-8
block_count-requires-8 g c = short_at c.args.prefix.now c.args.values.now 7 (c.requires.short 7 (omega arith))

pub block_words-words-requires : goal.block_words-words-requires
block_words-words-requires g c =
    let counts : List ℕ = c.block_count.result ∷ c.block_count-2.result ∷ c.block_count-3.result ∷ c.block_count-4.result ∷ c.block_count-5.result ∷ c.block_count-6.result ∷ c.block_count-7.result ∷ c.block_count-8.result ∷ [] in
    let values = c.args.values.now in
    let p = c.args.prefix.now in
    let small : (j : ℕ) → j < 8 → slice_index counts j < 2 ^ 55 = each_lane _ (few_blocks p values 0 (c.requires.short 0 (omega arith)) c.block_count.ensures) (few_blocks p values 1 (c.requires.short 1 (omega arith)) c.block_count-2.ensures) (few_blocks p values 2 (c.requires.short 2 (omega arith)) c.block_count-3.ensures) (few_blocks p values 3 (c.requires.short 3 (omega arith)) c.block_count-4.ensures) (few_blocks p values 4 (c.requires.short 4 (omega arith)) c.block_count-5.ensures) (few_blocks p values 5 (c.requires.short 5 (omega arith)) c.block_count-6.ensures) (few_blocks p values 6 (c.requires.short 6 (omega arith)) c.block_count-7.ensures) (few_blocks p values 7 (c.requires.short 7 (omega arith)) c.block_count-8.ensures) in
    let within : (j : ℕ) → j < 8 → c.shortest_of-shortest.result ≤ length (lane_bytes values j) = each_lane _ (within_at values 0 (c.shortest_of-shortest.ensures 0 (omega arith))) (within_at values 1 (c.shortest_of-shortest.ensures 1 (omega arith))) (within_at values 2 (c.shortest_of-shortest.ensures 2 (omega arith))) (within_at values 3 (c.shortest_of-shortest.ensures 3 (omega arith))) (within_at values 4 (c.shortest_of-shortest.ensures 4 (omega arith))) (within_at values 5 (c.shortest_of-shortest.ensures 5 (omega arith))) (within_at values 6 (c.shortest_of-shortest.ensures 6 (omega arith))) (within_at values 7 (c.shortest_of-shortest.ensures 7 (omega arith))) in
    (omega arith, (c.requires.short, (within, below_all c.loop-n-test.true (c.longest_of-longest.ensures.below (2 ^ 55) (omega arith) small))))

pub loop-n-smaller : goal.loop-n-smaller
loop-n-smaller g c = less_left c.loop-n-test.true
