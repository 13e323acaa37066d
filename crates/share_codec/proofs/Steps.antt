-- The steps of making shares.
use Rattle.std.proofs.Common.{⊎_elim, min, length-drop, ◌-◌, ◌≡◌, ℕ, ◌+◌, ◌*◌, ◌<◌, List, [], ◌++◌, Bor, length, take, drop, get_or, map, refl, sym, ap, ◌∙◌, subst, arith, append_assoc}
use Rattle.std.specs.List.{flat_map}
use Rattle.std.specs.Simd.{first_chunks}
use Rattle.std.proofs.lemmas.List.{take-append-drop, length-take, take_at, drop_at, take_all, take-map, drop-map, drop_all}
use Rattle.std.proofs.lemmas.Bool.{cases_lt}
use Rattle.erasure.specs.Given.{contents_of}
use Rattle.merkle.specs.Tree.{root}
use Rattle.share_codec.specs.Params.{ParamsValue}
use Rattle.share_codec.specs.Segments.{segments, segment_count, primary_blocks}
use Rattle.share_codec.specs.Tags.{block_hash, segment_hash}
use Rattle.share_codec.specs.Shares.{segment_hashes, share_leaves}
use Rattle.share_codec.specs.Drafts.{Begun, nothing_begun, IsFull, with_blocks, all_begun, blocks_begun}
use Rattle.share_codec.specs.Maker.{Maker, AreFirstHashes, IsMaking, IsReady}
use Rattle.share_codec.proofs.Cuts.{Filled}
use Rattle.share_codec.proofs.Making.{coded_more, length-segments, hashed_pieces}
use Rattle.share_codec.proofs.ShareRoots.{all_hashes, roots_are_leaves}
use Rattle.share_codec.proofs.Fronts.{segment_hashes_many, leaves_are, all_full}

-- none are the first of all
pub none_first : (all : List (List ℕ)) → AreFirstHashes [] all
none_first all = record { others = all; whole = refl }

-- with the next ones
pub more_first : (some all next new : List (List ℕ)) (n : ℕ) → AreFirstHashes some all → next ≡ take n (drop (length some) all) → new ≡ some ++ next → AreFirstHashes new all
more_first some all next new n first is made =
    let rest : drop (length some) all ≡ first.others = ap (drop (length some)) (sym first.whole) ∙ drop_at some first.others (length some) refl in
    record {
      others = drop n first.others;
      whole = ap (λ xs. xs ++ drop n first.others) (made ∙ ap (λ xs. some ++ xs) (is ∙ ap (take n) rest))
          ∙ append_assoc some (take n first.others) (drop n first.others)
          ∙ ap (λ xs. some ++ xs) (take-append-drop n first.others) ∙ first.whole;
    }

-- as many as all are all
pub all_first : (some all : List (List ℕ)) → AreFirstHashes some all → length some ≡ length all → some ≡ all
all_first some all first many =
    sym (take_at some first.others (length some) refl) ∙ ap (take (length some)) first.whole ∙ take_all (length some) all (omega arith)

-- some elements, each made of one that stands at its place
pub made_next : {X : Type 0} (f : X → List ℕ) (xs : List X) (j n : ℕ) → map f (take n (drop j xs)) ≡ take n (drop j (map f xs))
made_next f xs j n = sym (ap (take n) (drop-map f j xs) ∙ take-map f n (drop j xs))

-- as many as there are
pub take_min : {X : Type 0} (n : ℕ) (xs : List X) → take (min n (length xs)) xs ≡ take n xs
take_min n xs = ⊎_elim
    (λ below. ap (λ m. take m xs) (let m : min n (length xs) ≡ n = omega arith in m))
    (λ above. take_all (min n (length xs)) xs (omega arith) ∙ sym (take_all n xs above))
    (cases_lt n (length xs))

pub drop_min : {X : Type 0} (n : ℕ) (xs : List X) → drop (min n (length xs)) xs ≡ drop n xs
drop_min n xs = ⊎_elim
    (λ below. ap (λ m. drop m xs) (let m : min n (length xs) ≡ n = omega arith in m))
    (λ above. drop_all (min n (length xs)) xs (omega arith) ∙ sym (drop_all n xs above))
    (cases_lt n (length xs))

all_after : {X : Type 0} (start : ℕ) (xs : List X) → take (length xs - start) (drop start xs) ≡ drop start xs
all_after start xs = let rest : length (drop start xs) ≡ length xs - start = length-drop start xs in take_all (length xs - start) (drop start xs) (omega arith)

-- the hashes of some pieces that stand behind others
pub hashes_after : (hash : List ℕ → List ℕ) (pieces : List (Bor (List ℕ))) (all : List (List ℕ)) (start most a b : ℕ) → contents_of pieces ≡ all → a ≡ min start (length pieces)
    → b ≡ min most (length (take (length pieces - a) (drop a pieces)))
    → map (λ (piece : Bor (List ℕ)). hash piece.now) (take b (take (length pieces - a) (drop a pieces))) ≡ map hash (take most (drop start all))
hashes_after hash pieces all start most a b is from many =
    let rest : take (length pieces - a) (drop a pieces) ≡ drop start pieces = all_after a pieces ∙ ap (λ n. drop n pieces) from ∙ drop_min start pieces in
    ap (λ n. map (λ (piece : Bor (List ℕ)). hash piece.now) (take n (take (length pieces - a) (drop a pieces)))) many
    ∙ ap (map (λ (piece : Bor (List ℕ)). hash piece.now)) (take_min most (take (length pieces - a) (drop a pieces)) ∙ ap (take most) rest)
    ∙ made_next (λ (piece : Bor (List ℕ)). hash piece.now) pieces start most
    ∙ ap (λ xs. take most (drop start xs)) (hashed_pieces hash pieces all is)
    ∙ sym (made_next hash all start most)

-- before any step
pub first_making : (p : ParamsValue) (drafts : List Begun) (crypttext : List ℕ) → drafts ≡ all_begun p [] → length crypttext ≡ p.size
    → IsMaking (record { params = p; coded = 0; drafts = drafts; segment_hashes = []; block_hashes = [] }) crypttext
first_making p drafts crypttext e long = record {
  size = long;
  coded = e;
  segments = none_first _;
  blocks = none_first _;
}

-- with a segment more
pub coded_making : (m : Maker) (crypttext segment : List ℕ) (drafts : List Begun) (coded : ℕ) → IsMaking m crypttext → segment ≡ get_or (segments m.params crypttext) m.coded []
    → m.coded < segment_count m.params → drafts ≡ with_blocks m.drafts (primary_blocks m.params.k segment) → coded ≡ m.coded + 1 → m.block_hashes ≡ []
    → IsMaking (record { params = m.params; coded = coded; drafts = drafts; segment_hashes = m.segment_hashes; block_hashes = m.block_hashes }) crypttext
coded_making m crypttext segment drafts coded making is more made next none =
    let many : length (segments m.params crypttext) ≡ segment_count m.params = length-segments m.params crypttext in
    record {
      size = making.size;
      coded = coded_more m.params (segments m.params crypttext) m.coded segment m.drafts drafts making.coded is (omega arith) made
          ∙ ap (λ n. all_begun m.params (take n (segments m.params crypttext))) (sym next);
      segments = making.segments;
      blocks = subst (λ (hs : List (List ℕ)). AreFirstHashes hs (map block_hash (flat_map (blocks_begun m.params) drafts))) (sym none) (none_first _);
    }

-- with the hashes of segments more
pub hashed_making : (m : Maker) (crypttext : List ℕ) (next : List (Bor (List ℕ))) (hashes new : List (List ℕ)) → IsMaking m crypttext
    → contents_of next ≡ take (length next) (drop (length m.segment_hashes) (segments m.params crypttext))
    → hashes ≡ map (λ (s : Bor (List ℕ)). segment_hash s.now) next → new ≡ m.segment_hashes ++ hashes
    → IsMaking (record { params = m.params; coded = m.coded; drafts = m.drafts; segment_hashes = new; block_hashes = m.block_hashes }) crypttext
unfolding segment_hashes
hashed_making m crypttext next hashes new making are made is = record {
  size = making.size;
  coded = making.coded;
  segments = more_first m.segment_hashes (map segment_hash (segments m.params crypttext)) hashes new (length next) making.segments
      (made ∙ hashed_pieces segment_hash next _ are ∙ made_next segment_hash (segments m.params crypttext) (length m.segment_hashes) (length next)) is;
  blocks = making.blocks;
}

-- with the hashes of blocks more
pub blocks_making : (m : Maker) (crypttext : List ℕ) (hashes new : List (List ℕ)) (n : ℕ) → IsMaking m crypttext
    → hashes ≡ map block_hash (take n (drop (length m.block_hashes) (flat_map (blocks_begun m.params) m.drafts))) → new ≡ m.block_hashes ++ hashes
    → IsMaking (record { params = m.params; coded = m.coded; drafts = m.drafts; segment_hashes = m.segment_hashes; block_hashes = new }) crypttext
blocks_making m crypttext hashes new n making made is = record {
  size = making.size;
  coded = making.coded;
  segments = making.segments;
  blocks = more_first m.block_hashes (map block_hash (flat_map (blocks_begun m.params) m.drafts)) hashes new n making.blocks
      (made ∙ made_next block_hash (flat_map (blocks_begun m.params) m.drafts) (length m.block_hashes) n) is;
}

-- once all segments are coded
pub coded_full : (m : Maker) (crypttext : List ℕ) → IsMaking m crypttext → m.coded ≡ segment_count m.params → Filled m.params
    → (i : ℕ) → i < length m.drafts → IsFull m.params (get_or m.drafts i nothing_begun)
coded_full m crypttext making all some =
    let many : length (segments m.params crypttext) ≡ segment_count m.params = length-segments m.params crypttext in
    all_full m.params crypttext m.drafts (making.coded ∙ ap (all_begun m.params) (take_all m.coded (segments m.params crypttext) (omega arith))) making.size some

pub many_after : (p : ParamsValue) (drafts : List Begun) (hashes : List (List ℕ)) (start most : ℕ)
    → hashes ≡ map block_hash (take most (drop start (flat_map (blocks_begun p) drafts))) → length hashes ≡ min most (length drafts * segment_count p - start)
many_after p drafts hashes start most are =
    let all : List (List ℕ) = map block_hash (flat_map (blocks_begun p) drafts) in
    let many : length all ≡ length drafts * segment_count p = all_hashes p drafts all refl in
    let rest : length (drop start all) ≡ length all - start = length-drop start all in
    ap length (are ∙ made_next block_hash (flat_map (blocks_begun p) drafts) start most)
    ∙ length-take most (drop start all) ∙ ap (λ n. min most n) (rest ∙ ap (λ n. n - start) many)

-- after the last step
module _ (m : Maker) (crypttext : List ℕ) (making : IsMaking m crypttext) (ready : IsReady m) (some : Filled m.params) where
  pub drafts_are : m.drafts ≡ all_begun m.params (segments m.params crypttext)
  drafts_are =
      let many : length (segments m.params crypttext) ≡ segment_count m.params = length-segments m.params crypttext in
      let all : m.coded ≡ segment_count m.params = ready.coded in
      making.coded ∙ ap (all_begun m.params) (take_all m.coded (segments m.params crypttext) (omega arith))

  pub hashes_are : m.segment_hashes ≡ segment_hashes m.params crypttext
  hashes_are = all_first m.segment_hashes (segment_hashes m.params crypttext) making.segments (ready.segments ∙ sym (segment_hashes_many m.params crypttext))

  pub blocks_are : m.block_hashes ≡ map block_hash (flat_map (blocks_begun m.params) m.drafts)
  blocks_are =
      all_first m.block_hashes (map block_hash (flat_map (blocks_begun m.params) m.drafts)) making.blocks
      (ready.blocks ∙ sym (all_hashes m.params m.drafts (map block_hash (flat_map (blocks_begun m.params) m.drafts)) refl))

  pub leaves_made : (leaves : List (List ℕ)) (hashes : List (List ℕ)) (count many : ℕ) → hashes ≡ m.block_hashes → count ≡ segment_count m.params → many ≡ length m.drafts
      → leaves ≡ map root (first_chunks count many hashes) → leaves ≡ share_leaves m.params crypttext
  leaves_made leaves hashes count many same is all made =
      leaves_are m.params crypttext m.drafts drafts_are making.size some leaves
      (made ∙ ap (λ n. map root (first_chunks count n hashes)) all
      ∙ roots_are_leaves m.params m.drafts hashes (same ∙ blocks_are) count is)
