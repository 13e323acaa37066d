-- The shares of a file decode to its crypttext.
use Rattle.std.proofs.Common.{◌≡◌, ℕ, zero, suc, ◌+◌, ◌-◌, ◌*◌, ◌<◌, ◌≤◌, List, [], ◌∷◌, length, take, drop, map, get_or, replicate, Bool, true, refl, sym, ap, subst, ◌∙◌, arith, length-take, length-drop}
use Rattle.std.specs.Prelude.{All, ◌==◌}
use Rattle.std.specs.List.{concat, list_all, range_with_len}
use Rattle.std.specs.Int.{div_ceil}
use Rattle.std.proofs.lemmas.Bool.{and_from}
use Rattle.std.proofs.lemmas.List.{ext_get_or, get_or-map, length-map, drop_at}
use Rattle.std.proofs.lemmas.List.Elements.{All-take, All-drop, All-map}
use Rattle.std.proofs.lemmas.List.FromFn.{length-map-range_with_len, get_or-map-range_with_len}
use Rattle.octets.specs.Sharing.{IsSharing}
use Rattle.erasure.specs.Blocks.{block_of, primary_from}
use Rattle.erasure.specs.Code.{AreBytes, AreBlocks}
use Rattle.erasure.specs.Given.{numbers_of, AreNumbers}
use Rattle.share_codec.specs.Params.{ParamsValue}
use Rattle.share_codec.specs.Segments.{segment_size, segment_count, segment_length, segments, with_padding, primary_blocks}
use Rattle.share_codec.specs.Shares.{blocks, roots_of}
use Rattle.share_codec.specs.GoodShare.{GoodShare}
use Rattle.file_shares.specs.Fit.{blocks_at, has_zeros, has_padding, segment_from, crypttext_from}

-- what the laws of the code and of segments say
abbrev pub TrueBlocks : Type 0
TrueBlocks = (size : ℕ) (primary : List (List ℕ)) (given : List (ℕ × List ℕ)) → 0 < length primary → length primary ≤ 256 → AreBlocks size primary → length primary ≤ length given → AreNumbers (numbers_of given)
    → All (λ g. g.1 ≡ block_of primary g.0) given → primary_from (length primary) given ≡ primary

abbrev pub FileJoined : Type 0
FileJoined = (p : ParamsValue) (bytes : List ℕ) → IsSharing p.k p.n → 0 < p.size → length bytes ≡ p.size → concat (segments p bytes) ≡ bytes

abbrev pub SegmentCount : Type 0
SegmentCount = (p : ParamsValue) (bytes : List ℕ) → length (segments p bytes) ≡ segment_count p

abbrev pub SegmentAt : Type 0
SegmentAt = (p : ParamsValue) (bytes : List ℕ) (at : ℕ) → at < segment_count p → get_or (segments p bytes) at [] ≡ take (segment_size p) (drop (at * segment_size p) bytes)

abbrev pub SegmentJoined : Type 0
SegmentJoined = (k : ℕ) (segment : List ℕ) → 0 < k → take (length segment) (concat (primary_blocks k segment)) ≡ segment

abbrev pub PrimaryCount : Type 0
PrimaryCount = (k : ℕ) (segment : List ℕ) → length (primary_blocks k segment) ≡ k

abbrev pub PrimaryAre : Type 0
PrimaryAre = (k : ℕ) (segment : List ℕ) → 0 < k → AreBytes segment → AreBlocks (div_ceil (length segment) k) (primary_blocks k segment)

abbrev pub JoinedPrimary : Type 0
JoinedPrimary = (k : ℕ) (segment : List ℕ) → 0 < k → concat (primary_blocks k segment) ≡ with_padding k segment

-- ---- padding

all_zeros : (n : ℕ) → list_all (λ b. b == 0) (replicate n 0) ≡ true
all_zeros zero = refl
all_zeros (suc n) = all_zeros n

zeros_after : JoinedPrimary → (k : ℕ) (segment : List ℕ) → 0 < k → list_all (λ b. b == 0) (drop (length segment) (concat (primary_blocks k segment))) ≡ true
unfolding with_padding
zeros_after joined_primary k segment some =
    let n = div_ceil (length segment) k * k - length segment in
    ap (λ xs. list_all (λ b. b == 0) (drop (length segment) xs)) (joined_primary k segment some)
    ∙ ap (list_all (λ b. b == 0)) (drop_at segment (replicate n 0) (length segment) refl) ∙ all_zeros n

all_in_range : (p : ℕ → Bool) (a n : ℕ) → ((i : ℕ) → a ≤ i → i < a + n → p i ≡ true) → list_all p (range_with_len a n) ≡ true
all_in_range p a zero each = refl
all_in_range p a (suc n) each = and_from (p a) (list_all p (range_with_len (a + 1) n)) (each a (omega arith) (omega arith)) (all_in_range p (a + 1) n (λ i low high. each i (omega arith) (omega arith)))

-- what is read from a share that was made
abbrev pub made_share : ParamsValue → List ℕ → ℕ → GoodShare
made_share p crypttext i = record { number = i; ueb = roots_of p crypttext; blocks = blocks p crypttext i }

abbrev numbered : List (List ℕ) → List ℕ → List (ℕ × List ℕ)
numbered primary numbers = map (λ i. (i, block_of primary i)) numbers

numbers_numbered : (primary : List (List ℕ)) (numbers : List ℕ) → numbers_of (numbered primary numbers) ≡ numbers
numbers_numbered primary [] = refl
numbers_numbered primary (i ∷ numbers) = ap (λ l. i ∷ l) (numbers_numbered primary numbers)

module _ (true_blocks : TrueBlocks) (joined : FileJoined) (count : SegmentCount) (cut : SegmentAt) (whole : SegmentJoined) (as_many : PrimaryCount) (are : PrimaryAre) (joined_primary : JoinedPrimary)
    (p : ParamsValue) (sharing : IsSharing p.k p.n) (crypttext : List ℕ) (long : length crypttext ≡ p.size) (bytes : AreBytes crypttext) where
  block_at : (i at : ℕ) → at < segment_count p → get_or (blocks p crypttext i) at [] ≡ block_of (primary_blocks p.k (get_or (segments p crypttext) at [])) i
  unfolding blocks
  block_at i at below =
      get_or-map (λ s. block_of (primary_blocks p.k s) i) (segments p crypttext) at [] [] (let e = count p crypttext in omega arith)

  made_blocks : (at : ℕ) → at < segment_count p → (numbers : List ℕ) → blocks_at (map (made_share p crypttext) numbers) at ≡ numbered (primary_blocks p.k (get_or (segments p crypttext) at [])) numbers
  made_blocks at below [] = refl
  made_blocks at below (i ∷ numbers) =
      let here = block_at i at below in
      let more = made_blocks at below numbers in
      λ j. (i, here j) ∷ more j

  cut_length : (at : ℕ) → at < segment_count p → length (get_or (segments p crypttext) at []) ≡ segment_length p at
  unfolding segment_length
  cut_length at below =
      let e : length (get_or (segments p crypttext) at []) ≡ length (take (segment_size p) (drop (at * segment_size p) crypttext)) = ap length (cut p crypttext at below) in
      omega (arith, length-take (segment_size p) (drop (at * segment_size p) crypttext), length-drop (at * segment_size p) crypttext)

  cut_bytes : (at : ℕ) → at < segment_count p → AreBytes (get_or (segments p crypttext) at [])
  cut_bytes at below =
      subst AreBytes (sym (cut p crypttext at below)) (All-take (λ b. b < 256) (segment_size p) (drop (at * segment_size p) crypttext) (All-drop (λ b. b < 256) (at * segment_size p) crypttext bytes))

  module _ (numbers : List ℕ) (many : p.k ≤ length numbers) (apart : AreNumbers numbers) where
    decoded : (at : ℕ) → at < segment_count p → primary_from p.k (numbered (primary_blocks p.k (get_or (segments p crypttext) at [])) numbers) ≡ primary_blocks p.k (get_or (segments p crypttext) at [])
    decoded at below =
        let s = get_or (segments p crypttext) at [] in
        let primary = primary_blocks p.k s in
        let n : length primary ≡ p.k = as_many p.k s in
        let given = numbered primary numbers in
        let long_given : length given ≡ length numbers = length-map numbers (λ i. (i, block_of primary i)) in
        let some : 0 < length primary = (let h = sharing.some in omega arith) in
        let few : length primary ≤ 256 = (let h = sharing.enough in let g = sharing.limit in omega arith) in
        subst (λ m. primary_from m given ≡ primary) n
        (true_blocks (div_ceil (length s) p.k) primary given some few (are p.k s sharing.some (cut_bytes at below)) (omega arith)
        (subst AreNumbers (sym (numbers_numbered primary numbers)) apart)
        (All-map (λ g. g.1 ≡ block_of primary g.0) (λ i. (i, block_of primary i)) numbers (λ at d within. refl)))

    segment_is : (at : ℕ) → at < segment_count p → segment_from p (map (made_share p crypttext) numbers) at ≡ get_or (segments p crypttext) at []
    segment_is at below =
        let s = get_or (segments p crypttext) at [] in
        ap (λ given. take (segment_length p at) (concat (primary_from p.k given))) (made_blocks at below numbers)
        ∙ ap (λ primary. take (segment_length p at) (concat primary)) (decoded at below)
        ∙ ap (λ n. take n (concat (primary_blocks p.k s))) (sym (cut_length at below))
        ∙ whole p.k s sharing.some

    -- padded with zeros
    pub padding_is : has_padding p (map (made_share p crypttext) numbers) ≡ true
    unfolding has_padding
    padding_is =
        all_in_range (has_zeros p (map (made_share p crypttext) numbers)) 0 (segment_count p)
        (λ at low high.
        let below : at < segment_count p = omega arith in
        let s = get_or (segments p crypttext) at [] in
        ap (λ given. list_all (λ b. b == 0) (drop (segment_length p at) (concat (primary_from p.k given)))) (made_blocks at below numbers)
        ∙ ap (λ primary. list_all (λ b. b == 0) (drop (segment_length p at) (concat primary))) (decoded at below)
        ∙ ap (λ n. list_all (λ b. b == 0) (drop n (concat (primary_blocks p.k s)))) (sym (cut_length at below))
        ∙ zeros_after joined_primary p.k s sharing.some)

    pub crypttext_is : 0 < p.size → crypttext_from p (map (made_share p crypttext) numbers) ≡ crypttext
    unfolding crypttext_from
    crypttext_is some =
        let shares = map (made_share p crypttext) numbers in
        let parts = map (segment_from p shares) (range_with_len 0 (segment_count p)) in
        let many_parts : length parts ≡ segment_count p = length-map-range_with_len (segment_from p shares) 0 (segment_count p) in
        let many_cut : length (segments p crypttext) ≡ segment_count p = count p crypttext in
        let equal : parts ≡ segments p crypttext =
        ext_get_or [] parts (segments p crypttext) (many_parts ∙ sym many_cut)
        (λ at below.
        let inside : at < segment_count p = omega arith in
        get_or-map-range_with_len (segment_from p shares) 0 (segment_count p) at at [] inside (omega arith) ∙ segment_is at inside) in
        ap concat equal ∙ joined p crypttext sharing some long
