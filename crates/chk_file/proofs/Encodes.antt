-- What verification finds has the blocks from which it was found.
use Rattle.std.proofs.Common.{◌≡◌, ℕ, zero, suc, ◌-◌, ◌*◌, ◌<◌, ◌≤◌, List, [], ◌∷◌, ◌++◌, length, take, drop, map, get_or, replicate, true, false, cond, Option, Some, None, refl, sym, ap, subst, ◌∙◌, arith, length-drop}
use Rattle.std.specs.Prelude.{◌==◌, All, IfSome, nat_le}
use Rattle.std.specs.Int.{div_ceil}
use Rattle.std.specs.Option.{option_map, option_or}
use Rattle.std.specs.List.{concat, list_all, range_with_len}
use Rattle.std.specs.Cmp.Lexicographic.{bytes_decides}
use Rattle.std.specs.Simd.{first_chunks}
use Rattle.std.proofs.lemmas.Bool.{and_parts, eqb-true, leb-true}
use Rattle.std.proofs.lemmas.Option.{cond_some, none-some}
use Rattle.std.proofs.lemmas.List.{ext_get_or, get_or-map, length-map, length-take-le, take_at, drop_at, take-append-drop}
use Rattle.std.proofs.lemmas.List.Elements.{All-nil, All-cons, All-head, All-tail, All-take, All-drop, All-map}
use Rattle.std.proofs.lemmas.List.FromFn.{length-map-range_with_len, get_or-map-range_with_len}
use Rattle.octets.specs.Sharing.{IsSharing}
use Rattle.tag_hash.specs.Decimal.{decimal_text}
use Rattle.tag_hash.specs.Netstring.{netstring}
use Rattle.aes_ctr.specs.Crypt.{crypt}
use Rattle.erasure.specs.Blocks.{size_of, block_of, primary_from}
use Rattle.erasure.specs.Code.{AreBytes, AreBlocks}
use Rattle.erasure.specs.Given.{AreNumbers, AreDistinct, HaveOneLength, numbers_of, blocks_of}
use Rattle.share_codec.specs.Params.{ParamsValue}
use Rattle.share_codec.specs.Segments.{block_size, segment_count, segment_length, block_length, with_padding, primary_blocks, cut_blocks}
use Rattle.share_codec.specs.Texts.{ShareTexts, share_text}
use Rattle.share_codec.specs.Shares.{blocks, roots_of}
use Rattle.share_codec.specs.GoodShare.{GoodShare, good_share}
use Rattle.file_shares.specs.Row.{ShareTable, ServerShare, places, first_good, good_at, good_shares}
use Rattle.file_shares.specs.Taken.{AreTaken}
use Rattle.file_shares.specs.Fit.{blocks_at, decoded_at, segment_from, has_zeros, has_padding, has_root, are_shares_of, crypttext_from, given_by, fit_in}
use Rattle.chk_file.specs.IsFit.{IsByteRow, IsGivenBy}
use Rattle.file_shares.proofs.Tools.{true_or_false, All-filter_map}
use Rattle.file_shares.proofs.Pieces.{not_all}
use Rattle.file_shares.proofs.Sealed.{ReadFrom, GoodIsCut}
use Rattle.file_shares.proofs.Goods.{of_first, all_taken, numbers-blocks_at, contents-blocks_at, first_long, same_lengths}
use Rattle.file_shares.proofs.Lengths.{DecodedCount, DecodedBlocks, JoinedCut, length-decoded, length-segment_from, length-crypttext, segments-crypttext}
use Rattle.file_shares.proofs.Sound.{Twice, CryptIs, CryptLength, crypt-twice, length-crypt}

-- ---- the blocks of good shares are bytes

right_bytes : (xs ys : List ℕ) → AreBytes (xs ++ ys) → AreBytes ys
right_bytes [] ys all = all
right_bytes (x ∷ xs) ys all = right_bytes xs ys (All-tail (λ b. b < 256) x (xs ++ ys) all)

left_bytes : (xs ys : List ℕ) → AreBytes (xs ++ ys) → AreBytes xs
left_bytes [] ys all = All-nil (λ b. b < 256)
left_bytes (x ∷ xs) ys all = All-cons (λ b. b < 256) x xs (All-head (λ b. b < 256) x (xs ++ ys) all) (left_bytes xs ys (All-tail (λ b. b < 256) x (xs ++ ys) all))

netstring_bytes : (v : List ℕ) → AreBytes (netstring v) → AreBytes v
unfolding netstring
netstring_bytes v all =
    left_bytes v (44 ∷ []) (All-tail (λ b. b < 256) 58 (v ++ 44 ∷ []) (right_bytes (decimal_text (length v)) (58 ∷ (v ++ 44 ∷ [])) all))

block_bytes : (t : ShareTexts) → AreBytes (share_text t) → AreBytes t.blocks
unfolding share_text
block_bytes t all =
    netstring_bytes t.blocks
    (right_bytes (netstring t.siblings) _
    (right_bytes (netstring t.hashes) _
    (right_bytes (netstring t.extension) _
    (right_bytes (netstring t.number) _
    (right_bytes (netstring t.version) _ all)))))

chunk_bytes : (n count : ℕ) (xs : List ℕ) → AreBytes xs → All AreBytes (first_chunks n count xs)
chunk_bytes n zero xs all = All-nil AreBytes
chunk_bytes n (suc count) xs all =
    All-cons AreBytes (take n xs) (first_chunks n count (drop n xs)) (All-take (λ b. b < 256) n xs all) (chunk_bytes n count (drop n xs) (All-drop (λ b. b < 256) n xs all))

abbrev pub HasBytes : GoodShare → Type 0
HasBytes share = All AreBytes share.blocks

module _ (read : ReadFrom) (p : ParamsValue) (ueb : List ℕ) where
  good_bytes : (s : List ℕ) (number : ℕ) (o : Option GoodShare) → AreBytes s → good_share s number p ueb ≡ o → IfSome o HasBytes
  unfolding cut_blocks
  good_bytes s number None are e = tt
  good_bytes s number (Some good) are e =
      let from = read s number p ueb good e in
      subst (All AreBytes) (sym from.cut) (chunk_bytes (block_size p) (segment_count p) from.texts.blocks (block_bytes from.texts (subst AreBytes from.meets.six.text are)))

  first_bytes : (number : ℕ) (found : List ServerShare) → All (λ (place : ServerShare). AreBytes place.1) found → IfSome (first_good p ueb number found) HasBytes
  first_bytes number [] all = tt
  first_bytes number (place ∷ found) all =
      either (good_share place.1 number p ueb) (first_good p ueb number found) (good_bytes place.1 number (good_share place.1 number p ueb) (All-head (λ (q : ServerShare). AreBytes q.1) place found all) refl)
      (first_bytes number found (All-tail (λ (q : ServerShare). AreBytes q.1) place found all))
    where
      either : (one other : Option GoodShare) → IfSome one HasBytes → IfSome other HasBytes → IfSome (option_or one other) HasBytes
      either None other first second = second
      either (Some share) other first second = first

  place_bytes : (server : ℕ) (o : Option (List ℕ)) → IfSome o AreBytes → IfSome (option_map (λ s. (server, s)) o) (λ (place : ServerShare). AreBytes place.1)
  place_bytes server None are = tt
  place_bytes server (Some s) are = are

  pub row_bytes : (row : ShareTable) → IsByteRow row → All HasBytes (good_shares p ueb row)
  row_bytes row are =
      All-filter_map HasBytes (good_at p ueb row) (range_with_len 0 p.n)
      (λ number. first_bytes number (places row number)
      (All-filter_map (λ (place : ServerShare). AreBytes place.1) (λ server. option_map (λ s. (server, s)) (row server number)) (range_with_len 0 _) (λ server. place_bytes server (row server number) (are server number))))

-- ---- one segment

all_zero : (xs : List ℕ) → list_all (λ b. b == 0) xs ≡ true → xs ≡ replicate (length xs) 0
all_zero [] e = refl
all_zero (x ∷ xs) e =
    let parts = and_parts (x == 0) (list_all (λ b. b == 0) xs) e in
    let here = eqb-true x 0 parts.0 in let more = all_zero xs parts.1 in λ i. here i ∷ more i

chunks_back : (size : ℕ) (bs : List (List ℕ)) → AreBlocks size bs → first_chunks size (length bs) (concat bs) ≡ bs
chunks_back size [] all = refl
chunks_back size (b ∷ bs) all =
    let long = (All-head (λ b. (length b ≡ size) × AreBytes b) b bs all).0 in
    let here = take_at b (concat bs) size long in
    let rest = ap (first_chunks size (length bs)) (drop_at b (concat bs) size long) ∙ chunks_back size bs (All-tail (λ b. (length b ≡ size) × AreBytes b) b bs all) in
    λ i. here i ∷ rest i

-- what the law of the code says
abbrev pub DecodedGiven : Type 0
DecodedGiven = (k : ℕ) (given : List (ℕ × List ℕ)) → 0 < k → k ≤ 256 → length given ≡ k → AreNumbers (numbers_of given) → HaveOneLength (blocks_of given) → All AreBytes (blocks_of given)
    → All (λ g. g.1 ≡ block_of (primary_from k given) g.0) given

module _ (count : DecodedCount) (are : DecodedBlocks) (back : DecodedGiven) (p : ParamsValue) (shares : List GoodShare) (taken : AreTaken p shares) (bytes : All HasBytes shares) where
  module _ (at : ℕ) (inside : at < segment_count p) where
    abbrev given : List (ℕ × List ℕ)
    given = blocks_at shares at

    size_is : size_of (blocks_of given) ≡ block_length p at
    size_is = first_long p shares at inside taken.cut (let h = taken.sharing.some in let e = taken.many in omega arith)

    padded_is : has_zeros p shares at ≡ true → with_padding p.k (segment_from p shares at) ≡ decoded_at p shares at
    unfolding with_padding block_length
    padded_is zeros =
        let d = decoded_at p shares at in
        let l = segment_length p at in
        let s = segment_from p shares at in
        let long : length s ≡ l = length-segment_from count are p shares taken at inside in
        let all : length d ≡ p.k * div_ceil l p.k = length-decoded count are p shares taken at inside in
        let left : length (drop l d) ≡ length d - l = length-drop l d in
        let turned : div_ceil l p.k * p.k ≡ p.k * div_ceil l p.k = grind arith in
        let same : div_ceil (length s) p.k * p.k - length s ≡ length (drop l d) =
        ap (λ m. div_ceil m p.k * p.k - m) long ∙ ap (λ m. m - l) (turned ∙ sym all) ∙ sym left in
        ap (λ m. s ++ replicate m 0) same ∙ ap (λ ys. s ++ ys) (sym (all_zero (drop l d) zeros)) ∙ take-append-drop l d

    primary_is : has_zeros p shares at ≡ true → primary_blocks p.k (segment_from p shares at) ≡ primary_from p.k given
    unfolding primary_blocks block_length
    primary_is zeros =
        let primary = primary_from p.k given in
        let s = segment_from p shares at in
        let long : length s ≡ segment_length p at = length-segment_from count are p shares taken at inside in
        let size : div_ceil (length s) p.k ≡ size_of (blocks_of given) = ap (λ m. div_ceil m p.k) long ∙ sym size_is in
        ap (λ n. first_chunks n p.k (with_padding p.k s)) size
        ∙ ap (λ m. first_chunks (size_of (blocks_of given)) m (with_padding p.k s)) (sym (count p.k given))
        ∙ ap (first_chunks (size_of (blocks_of given)) (length primary)) (padded_is zeros)
        ∙ chunks_back (size_of (blocks_of given)) primary (are p.k given)

    coded : All (λ g. g.1 ≡ block_of (primary_from p.k given) g.0) given
    coded =
        let few : p.k ≤ 256 = (let a = taken.sharing.enough in let b = taken.sharing.limit in omega arith) in
        back p.k given taken.sharing.some few (length-map shares (λ (share : GoodShare). (share.number, get_or share.blocks at [])) ∙ taken.many)
        (record {
          small = subst (All (λ n. n < 256)) (sym (numbers-blocks_at shares at))
              (All-map (λ n. n < 256) (λ (share : GoodShare). share.number) shares (λ k d below. let h = (taken.cut k d below).below in let g = taken.sharing.limit in omega arith));
          distinct = subst AreDistinct (sym (numbers-blocks_at shares at)) taken.apart;
        })
        (same_lengths p shares at inside taken.cut)
        (subst (All AreBytes) (sym (contents-blocks_at shares at))
        (All-map AreBytes (λ (share : GoodShare). get_or share.blocks at []) shares
        (λ k d below. bytes k d below at [] (let h = (taken.cut k d below).count in omega arith))))

    block_is : has_zeros p shares at ≡ true → (i : ℕ) (d : GoodShare) → i < length shares → block_of (primary_blocks p.k (segment_from p shares at)) (get_or shares i d).number ≡ get_or (get_or shares i d).blocks at []
    block_is zeros i d below =
        let view : GoodShare → ℕ × List ℕ = λ share. (share.number, get_or share.blocks at []) in
        let here : get_or given i (view d) ≡ view (get_or shares i d) = get_or-map view shares i d (view d) below in
        let long : length given ≡ length shares = length-map shares view in
        let law = coded i (view d) (omega arith) in
        ap (λ primary. block_of primary (get_or shares i d).number) (primary_is zeros)
        ∙ sym (subst (λ (g : ℕ × List ℕ). g.1 ≡ block_of (primary_from p.k given) g.0) here law)

  -- ---- all of them

  zeros_at : has_padding p shares ≡ true → (at : ℕ) → at < segment_count p → has_zeros p shares at ≡ true
  unfolding has_padding
  zeros_at padding at inside =
      true_or_false (has_zeros p shares at) _ (λ yes. yes)
      (λ no. let e : true ≡ false = sym padding ∙ not_all (has_zeros p shares) (segment_count p) at inside no in absurd (cc))

  pub blocks_are : JoinedCut → has_padding p shares ≡ true → All (λ (share : GoodShare). blocks p (crypttext_from p shares) share.number ≡ share.blocks) shares
  unfolding blocks
  blocks_are cut padding i d below =
      let share = get_or shares i d in
      let f : List ℕ → List ℕ = λ segment. block_of (primary_blocks p.k segment) share.number in
      let parts : List (List ℕ) = map (segment_from p shares) (range_with_len 0 (segment_count p)) in
      let long : length parts ≡ segment_count p = length-map-range_with_len (segment_from p shares) 0 (segment_count p) in
      let many : length (map f parts) ≡ segment_count p = length-map parts f ∙ long in
      ap (map f) (segments-crypttext count are p shares taken cut)
      ∙ ext_get_or [] (map f parts) share.blocks (many ∙ sym (taken.cut i d below).count)
      (λ at within.
      let inside : at < segment_count p = omega arith in
      get_or-map f parts at [] [] (omega arith)
      ∙ ap f (get_or-map-range_with_len (segment_from p shares) 0 (segment_count p) at at [] inside (omega arith))
      ∙ block_is at inside (zeros_at padding at inside) i d below)

-- ---- what is found

top_of : (p : ParamsValue) (c : List ℕ) (k : ℕ) (shares : List GoodShare) → 0 < k → has_root p c (take k shares) ≡ true → All (λ (share : GoodShare). (roots_of p c).crypttext_root ≡ share.ueb.crypttext_root) (take 1 shares)
top_of p c zero shares some top = absurd (omega arith)
top_of p c (suc k) [] some top = cc
top_of p c (suc k) (share ∷ shares) some top =
    All-cons (λ (s : GoodShare). (roots_of p c).crypttext_root ≡ s.ueb.crypttext_root) share [] ((bytes_decides (roots_of p c).crypttext_root share.ueb.crypttext_root).0 top)
    (All-nil (λ (s : GoodShare). (roots_of p c).crypttext_root ≡ s.ueb.crypttext_root))

module _ (read : ReadFrom) (is_cut : GoodIsCut) (count : DecodedCount) (are : DecodedBlocks) (back : DecodedGiven) (cut : JoinedCut) (twice : Twice) (is : CryptIs) (long : CryptLength)
    (p : ParamsValue) (sharing : IsSharing p.k p.n) (key ueb : List ℕ) (row : ShareTable) (row_are : IsByteRow row) (bytes : List ℕ) where
  given_enough : p.k ≤ length (good_shares p ueb row) → given_by p key (take p.k (good_shares p ueb row)) ≡ Some bytes → IsGivenBy p key (good_shares p ueb row) bytes
  given_enough enough e =
      let all = good_shares p ueb row in
      let shares = take p.k all in
      let c = crypttext_from p shares in
      let both = cond_some (are_shares_of p c shares) (crypt key c) bytes e in
      let parts = and_parts (has_padding p shares) (has_root p c shares) both.0 in
      let many : p.k ≤ length shares = (let h = length-take-le p.k all enough in omega arith) in
      let taken : AreTaken p shares = all_taken read is_cut p ueb (good_at p ueb row) (λ number. of_first read is_cut p ueb number (places row number)) sharing p.n shares refl many in
      let crypted : crypt key bytes ≡ c = ap (crypt key) (sym both.1) ∙ crypt-twice twice is key c in
      let size : length bytes ≡ p.size = ap length (sym both.1) ∙ length-crypt is long key c ∙ length-crypttext count are p shares taken cut in
      let held : All HasBytes shares = All-take HasBytes p.k all (row_bytes read p ueb row row_are) in
      record {
        enough = enough;
        size = size;
        blocks = subst (λ x. All (λ (share : GoodShare). blocks p x share.number ≡ share.blocks) shares) (sym crypted) (blocks_are count are back p shares taken held cut parts.0);
        top = subst (λ x. All (λ (share : GoodShare). (roots_of p x).crypttext_root ≡ share.ueb.crypttext_root) (take 1 all)) (sym crypted) (top_of p c p.k all sharing.some parts.1);
      }

  pub found_is_given : fit_in p key (good_shares p ueb row) ≡ Some bytes → IsGivenBy p key (good_shares p ueb row) bytes
  found_is_given e =
      let all = good_shares p ueb row in
      true_or_false (nat_le p.k (length all)) _
      (λ yes. given_enough (leb-true p.k (length all) yes) (sym (ap (λ t. cond t (given_by p key (take p.k all)) None) yes) ∙ e))
      (λ no. absurd (none-some bytes (sym (ap (λ t. cond t (given_by p key (take p.k all)) None) no) ∙ e)))
