-- The steps in which a string is judged.
use Rattle.std.proofs.Common.{◌≡◌, ℕ, ◌+◌, ◌-◌, ◌*◌, ◌<◌, ◌≤◌, List, length, drop, map, sym, ap, ◌∙◌, subst, arith, length-take, length-drop}
use Rattle.std.specs.List.{slice_range}
use Rattle.std.specs.Simd.{first_chunks}
use Rattle.merkle.specs.Tree.{root}
use Rattle.share_codec.specs.Params.{ParamsValue}
use Rattle.share_codec.specs.Segments.{block_size, segment_size, segment_count, blocks_size, segments, cut_blocks}
use Rattle.share_codec.specs.Tags.{segment_hash}
use Rattle.share_codec.specs.Texts.{ShareTexts, share_text}
use Rattle.share_codec.specs.Shares.{segment_hashes, roots_of}
use Rattle.share_codec.specs.Maker.{AreFirstHashes}
use Rattle.share_codec.specs.Readings.{Reading, last_blocks}
use Rattle.share_codec.proofs.Cuts.{Filled, fills, some_block}
use Rattle.share_codec.proofs.BlocksAt.{blocks_there}
use Rattle.share_codec.proofs.Fronts.{segment_hashes_many}
use Rattle.share_codec.proofs.Steps.{all_first}

-- ---- blocks

-- where they stand, by the numbers that were computed
pub last_blocks_by : (p : ParamsValue) (s : List ℕ) (many n count : ℕ) → many ≡ blocks_size p → n ≡ block_size p → count ≡ segment_count p
    → first_chunks n count (slice_range s (length s - 1 - many) (length s - 1)) ≡ last_blocks p s
unfolding last_blocks cut_blocks
last_blocks_by p s many n count e f g = λ i. first_chunks (f i) (g i) (slice_range s (length s - 1 - e i) (length s - 1))

length_last : (s : List ℕ) (many : ℕ) → many < length s → length (slice_range s (length s - 1 - many) (length s - 1)) ≡ many
length_last s many below =
    let start : ℕ = length s - 1 - many in
    let rest : length (drop start s) ≡ length s - start = length-drop start s in
    let h = length-take (length s - 1 - start) (drop start s) in omega arith

-- they fit
pub last_fit : (p : ParamsValue) (s : List ℕ) (many n count : ℕ) → many ≡ blocks_size p → n ≡ block_size p → count ≡ segment_count p → Filled p → many < length s
    → count * n ≤ length (slice_range s (length s - 1 - many) (length s - 1)) + n
last_fit p s many n count e f g some below =
    let long : length (slice_range s (length s - 1 - many) (length s - 1)) ≡ many = length_last s many below in
    let more : 0 < n = subst (λ m. 0 < m) (sym f) (some_block p some) in
    let fit = fills p n count many f g e some more in
    omega (arith, fit.1, long)

-- of a string of six texts they are those of the last one
pub last_blocks_are : (p : ParamsValue) (s : List ℕ) (t : ShareTexts) → s ≡ share_text t → length t.blocks ≡ blocks_size p → last_blocks p s ≡ cut_blocks p t.blocks
unfolding last_blocks
last_blocks_are p s t is long = ap (cut_blocks p) (ap (λ n. slice_range s (length s - 1 - n) (length s - 1)) (sym long) ∙ blocks_there t s is)

-- ---- segments

pub segment_hashes_by : (p : ParamsValue) (bytes : List ℕ) (n count : ℕ) → n ≡ segment_size p → count ≡ segment_count p → map segment_hash (first_chunks n count bytes) ≡ segment_hashes p bytes
unfolding segment_hashes segments
segment_hashes_by p bytes n count e f = λ i. map segment_hash (first_chunks (e i) (f i) bytes)

-- where all are hashed, their hashes have the root
pub root_of_all : (p : ParamsValue) (bytes : List ℕ) (hashes top : List (List ℕ)) (r : Reading) → record { text = bytes; params = p } ≡ r → AreFirstHashes hashes (segment_hashes p bytes)
    → length hashes ≡ segment_count p → top ≡ hashes → root top ≡ (roots_of r.params r.text).crypttext_root
unfolding roots_of
root_of_all p bytes hashes top r view first all is =
    ap root (is ∙ all_first hashes (segment_hashes p bytes) first (all ∙ sym (segment_hashes_many p bytes)))
    ∙ ap (λ (v : Reading). root (segment_hashes v.params v.text)) view
