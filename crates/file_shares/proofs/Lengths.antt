-- How long what shares decode to is.
use Rattle.std.proofs.Common.{◌≡◌, ℕ, zero, suc, ◌+◌, ◌*◌, ◌<◌, ◌≤◌, List, [], ◌∷◌, length, map, get_or, sym, ap, ◌∙◌, arith, length-append, length-take}
use Rattle.std.specs.Int.{div_ceil}
use Rattle.std.specs.List.{concat, range_with_len}
use Rattle.std.proofs.lemmas.Grind.{div_ceil_times}
use Rattle.std.proofs.lemmas.List.Elements.{All-head, All-tail}
use Rattle.std.proofs.lemmas.List.FromFn.{length-map-range_with_len, get_or-map-range_with_len}
use Rattle.octets.specs.Sharing.{IsSharing}
use Rattle.erasure.specs.Blocks.{size_of, primary_from}
use Rattle.erasure.specs.Code.{AreBytes, AreBlocks}
use Rattle.erasure.specs.Given.{blocks_of}
use Rattle.share_codec.specs.Params.{ParamsValue}
use Rattle.share_codec.specs.Segments.{segment_count, segment_length, block_length, segments}
use Rattle.share_codec.specs.GoodShare.{GoodShare}
use Rattle.file_shares.specs.Taken.{AreTaken}
use Rattle.file_shares.specs.Fit.{blocks_at, decoded_at, segment_from, crypttext_from}
use Rattle.file_shares.proofs.Goods.{first_long}

-- what the laws of the code and of segments say
abbrev pub DecodedCount : Type 0
DecodedCount = (k : ℕ) (given : List (ℕ × List ℕ)) → length (primary_from k given) ≡ k

abbrev pub DecodedBlocks : Type 0
DecodedBlocks = (k : ℕ) (given : List (ℕ × List ℕ)) → AreBlocks (size_of (blocks_of given)) (primary_from k given)

abbrev pub JoinedCut : Type 0
JoinedCut = (p : ParamsValue) (parts : List (List ℕ)) → IsSharing p.k p.n → 0 < p.size → length parts ≡ segment_count p
    → ((at : ℕ) → at < segment_count p → length (get_or parts at []) ≡ segment_length p at) → (length (concat parts) ≡ p.size) × (segments p (concat parts) ≡ parts)

length-concat : (size : ℕ) (blocks : List (List ℕ)) → AreBlocks size blocks → length (concat blocks) ≡ length blocks * size
length-concat size [] all = let e : zero * size ≡ zero = grind arith in sym e
length-concat size (block ∷ blocks) all =
    let here = (All-head (λ b. (length b ≡ size) × AreBytes b) block blocks all).0 in
    let more = length-concat size blocks (All-tail (λ b. (length b ≡ size) × AreBytes b) block blocks all) in
    let e : suc (length blocks) * size ≡ size + length blocks * size = grind arith in
    length-append block (concat blocks) ∙ (λ i. here i + more i) ∙ sym e

-- a crypttext that was decoded has the size of the file
abbrev pub Sized : Type 0
Sized = (p : ParamsValue) (shares : List GoodShare) → AreTaken p shares → length (crypttext_from p shares) ≡ p.size

module _ (count : DecodedCount) (are : DecodedBlocks) (p : ParamsValue) (shares : List GoodShare) (taken : AreTaken p shares) where
  some_share : 0 < length shares
  some_share = let h = taken.sharing.some in let e = taken.many in omega arith

  -- a segment has its bytes, and padding
  pub length-decoded : (at : ℕ) → at < segment_count p → length (decoded_at p shares at) ≡ p.k * block_length p at
  length-decoded at inside =
      let given = blocks_at shares at in
      let size : size_of (blocks_of given) ≡ block_length p at = first_long p shares at inside taken.cut some_share in
      length-concat (size_of (blocks_of given)) (primary_from p.k given) (are p.k given)
      ∙ (λ i. count p.k given i * size i)

  pub segment_fits : (at : ℕ) → at < segment_count p → segment_length p at ≤ length (decoded_at p shares at)
  unfolding block_length
  segment_fits at inside =
      let long = length-decoded at inside in
      let covers : segment_length p at ≤ div_ceil (segment_length p at) p.k * p.k = (div_ceil_times (segment_length p at) p.k taken.sharing.some).0 in
      let turned : div_ceil (segment_length p at) p.k * p.k ≡ p.k * div_ceil (segment_length p at) p.k = grind arith in
      omega arith

  pub length-segment_from : (at : ℕ) → at < segment_count p → length (segment_from p shares at) ≡ segment_length p at
  length-segment_from at inside =
      let fits = segment_fits at inside in
      let long = length-take (segment_length p at) (decoded_at p shares at) in
      omega arith

  abbrev parts : List (List ℕ)
  parts = map (segment_from p shares) (range_with_len 0 (segment_count p))

  all_cut : JoinedCut → (length (concat parts) ≡ p.size) × (segments p (concat parts) ≡ parts)
  all_cut cut =
      cut p parts taken.sharing taken.some (length-map-range_with_len (segment_from p shares) 0 (segment_count p))
      (λ at inside. ap length (get_or-map-range_with_len (segment_from p shares) 0 (segment_count p) at at [] inside (omega arith)) ∙ length-segment_from at inside)

  pub length-crypttext : JoinedCut → length (crypttext_from p shares) ≡ p.size
  unfolding crypttext_from
  length-crypttext cut = (all_cut cut).0

  pub segments-crypttext : JoinedCut → segments p (crypttext_from p shares) ≡ parts
  unfolding crypttext_from
  segments-crypttext cut = (all_cut cut).1
