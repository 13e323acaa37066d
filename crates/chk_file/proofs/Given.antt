-- Bytes whose blocks stand in the first k good shares are what these give.
use Rattle.std.proofs.Common.{◌≡◌, ℕ, zero, suc, ◌<◌, ◌≤◌, List, [], ◌∷◌, length, take, drop, map, get_or, Bool, true, cond, Some, None, refl, sym, ap, subst, ◌∙◌, arith}
use Rattle.std.specs.Prelude.{◌==◌, All}
use Rattle.std.specs.List.{concat, list_all, range_with_len}
use Rattle.std.specs.Cmp.Lexicographic.{bytes_decides}
use Rattle.std.proofs.lemmas.Bool.{and_from, le-leb}
use Rattle.std.proofs.lemmas.List.{length-map, take-map, length-take-le}
use Rattle.std.proofs.lemmas.List.Elements.{All-head, All-tail, All-take, All-map}
use Rattle.aes_ctr.specs.Crypt.{crypt}
use Rattle.erasure.specs.Blocks.{primary_from}
use Rattle.erasure.specs.Code.{AreBytes}
use Rattle.erasure.specs.Given.{AreNumbers, AreDistinct}
use Rattle.share_codec.specs.Params.{ParamsValue}
use Rattle.octets.specs.Sharing.{IsSharing}
use Rattle.share_codec.specs.Segments.{segment_count, segment_length}
use Rattle.share_codec.specs.Shares.{blocks, roots_of}
use Rattle.share_codec.specs.GoodShare.{GoodShare}
use Rattle.file_shares.specs.Row.{ShareTable, good_shares}
use Rattle.file_shares.specs.Fit.{blocks_at, segment_from, has_zeros, has_padding, has_root, are_shares_of, crypttext_from, given_by, fit_in}
use Rattle.chk_file.specs.IsFit.{IsGivenBy}
use Rattle.file_shares.proofs.Tools.{pairs_taken}
use Rattle.chk_file.proofs.Decodes.{made_share}
use Rattle.file_shares.proofs.Sealed.{ReadFrom, GoodIsCut}
use Rattle.file_shares.proofs.Sound.{Twice, CryptIs, CryptLength, crypt-twice, length-crypt}
use Rattle.chk_file.proofs.Keys.{Decodes, Padded, CryptBytes}
use Rattle.file_shares.proofs.Goods.{IsKnown, row_known, row_apart, any_share}

module _ (p : ParamsValue) (crypttext : List ℕ) where
  abbrev numbers_in : List GoodShare → List ℕ
  numbers_in shares = map (λ (share : GoodShare). share.number) shares

  abbrev HasBlocks : GoodShare → Type 0
  HasBlocks share = blocks p crypttext share.number ≡ share.blocks

  same_blocks : (shares : List GoodShare) → All HasBlocks shares → (at : ℕ) → blocks_at shares at ≡ blocks_at (map (made_share p crypttext) (numbers_in shares)) at
  same_blocks [] all at = refl
  same_blocks (share ∷ shares) all at =
      let here : share.blocks ≡ blocks p crypttext share.number = sym (All-head HasBlocks share shares all) in
      let more = same_blocks shares (All-tail HasBlocks share shares all) at in
      λ i. (share.number, get_or (here i) at []) ∷ more i

  same_crypttext : (shares : List GoodShare) → All HasBlocks shares → crypttext_from p shares ≡ crypttext_from p (map (made_share p crypttext) (numbers_in shares))
  unfolding crypttext_from
  same_crypttext shares all =
      let each : (at : ℕ) → segment_from p shares at ≡ segment_from p (map (made_share p crypttext) (numbers_in shares)) at =
      λ at. ap (λ given. take (segment_length p at) (concat (primary_from p.k given))) (same_blocks shares all at) in
      ap (λ (f : ℕ → List ℕ). concat (map f (range_with_len 0 (segment_count p)))) (λ i at. each at i)

  same_padding : (shares : List GoodShare) → All HasBlocks shares → has_padding p shares ≡ has_padding p (map (made_share p crypttext) (numbers_in shares))
  unfolding has_padding
  same_padding shares all =
      let each : (at : ℕ) → has_zeros p shares at ≡ has_zeros p (map (made_share p crypttext) (numbers_in shares)) at =
      λ at. ap (λ given. list_all (λ b. b == 0) (drop (segment_length p at) (concat (primary_from p.k given)))) (same_blocks shares all at) in
      ap (λ (f : ℕ → Bool). list_all f (range_with_len 0 (segment_count p))) (λ i at. each at i)

  root_first : (k : ℕ) (shares : List GoodShare) → 0 < k → 0 < length shares → All (λ (share : GoodShare). (roots_of p crypttext).crypttext_root ≡ share.ueb.crypttext_root) (take 1 shares)
      → has_root p crypttext (take k shares) ≡ true
  root_first zero shares some many all = absurd (omega arith)
  root_first (suc k) [] some many all = absurd (omega arith)
  root_first (suc k) (share ∷ shares) some many all =
      (bytes_decides (roots_of p crypttext).crypttext_root share.ueb.crypttext_root).1 (All-head (λ (s : GoodShare). (roots_of p crypttext).crypttext_root ≡ s.ueb.crypttext_root) share [] all)

module _ (read : ReadFrom) (is_cut : GoodIsCut) (decodes : Decodes) (padded : Padded) (twice : Twice) (is : CryptIs) (long : CryptLength) (stay : CryptBytes)
    (p : ParamsValue) (sharing : IsSharing p.k p.n) (key ueb : List ℕ) (row : ShareTable) (bytes : List ℕ) (key_bytes : AreBytes key) (are : AreBytes bytes) (given : IsGivenBy p key (good_shares p ueb row) bytes) where
  pub given_is_fit : fit_in p key (good_shares p ueb row) ≡ Some bytes
  given_is_fit =
      let goods = good_shares p ueb row in
      let c = crypt key bytes in
      let taken = take p.k goods in
      let known = row_known read is_cut p ueb row in
      let enough : p.k ≤ length goods = given.enough in
      let needed : 0 < p.k = sharing.some in
      let one : 0 < length goods = omega arith in
      let some : 0 < p.size = (known 0 any_share one).cut.some in
      let size : length c ≡ p.size = length-crypt is long key bytes ∙ given.size in
      let c_bytes : AreBytes c = subst AreBytes (sym (is key bytes)) (stay key 0 bytes key_bytes are) in
      let numbers : List ℕ = map (λ (share : GoodShare). share.number) taken in
      let count : length numbers ≡ p.k = length-map taken (λ (share : GoodShare). share.number) ∙ length-take-le p.k goods enough in
      let all_numbers : List ℕ = map (λ (share : GoodShare). share.number) goods in
      let within : p.k ≤ length all_numbers = (let h = length-map goods (λ (share : GoodShare). share.number) in omega arith) in
      let apart : AreNumbers numbers = record {
        small = All-map (λ n. n < 256) (λ (share : GoodShare). share.number) taken (λ k d below. let h = (All-take (IsKnown read is_cut p ueb) p.k goods known k d below).cut.below in let g = sharing.limit in omega arith);
        distinct = subst AreDistinct (take-map (λ (share : GoodShare). share.number) p.k goods) (pairs_taken p.k all_numbers within (row_apart read is_cut p ueb row));
      } in
      let found : crypttext_from p taken ≡ c = same_crypttext p c taken given.blocks ∙ decodes p sharing c size c_bytes numbers (omega arith) apart some in
      let zeros : has_padding p taken ≡ true = same_padding p c taken given.blocks ∙ padded p sharing c size c_bytes numbers (omega arith) apart some in
      let passes : are_shares_of p c taken ≡ true = and_from _ _ zeros (root_first p c p.k goods needed one given.top) in
      ap (λ b. cond b (given_by p key taken) None) (le-leb p.k (length goods) enough)
      ∙ ap (λ c'. cond (are_shares_of p c' taken) (Some (crypt key c')) None) found
      ∙ ap (λ b. cond b (Some (crypt key c)) None) passes
      ∙ ap Some (crypt-twice twice is key bytes)
