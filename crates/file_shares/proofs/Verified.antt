-- Shares that are chosen of what was gathered, and what they give.
use Rattle.std.proofs.Common.{◌≡◌, ◌<◌, ◌≤◌, ℕ, List, [], length, take, cond, true, Option, None, Some, sym, ap, arith}
use Rattle.std.specs.Prelude.{slice_index_or}
use Rattle.aes_ctr.specs.Crypt.{crypt}
use Rattle.octets.specs.Sharing.{IsSharing}
use Rattle.caps.specs.Fields.{ReadValue}
use Rattle.share_codec.specs.Params.{ParamsValue}
use Rattle.share_codec.specs.GoodShare.{GoodShare}
use Rattle.file_shares.specs.Row.{first_good}
use Rattle.file_shares.specs.Gathered.{Found, by_number, good_below, fit_of}
use Rattle.file_shares.specs.Fit.{crypttext_from, are_shares_of}
use Rattle.file_shares.specs.Bound.{Bound}
use Rattle.file_shares.specs.Ahead.{file_params, plain_from, AreChosen, AreVerified}
use Rattle.file_shares.proofs.Sealed.{ReadFrom, GoodIsCut}
use Rattle.file_shares.proofs.Goods.{of_first, all_taken}
use Rattle.file_shares.proofs.Fitting.{too_few, not_of, of_bytes}
use Rattle.file_shares.proofs.Lengths.{Sized, DecodedCount, DecodedBlocks, JoinedCut, length-crypttext}
use Rattle.file_shares.proofs.Sound.{Twice, CryptIs, CryptLength, fit_is_bound}

-- what the laws of shares, segments, the code and the cipher say
pub record ReadLaws : Type 0 where
  pub read : ReadFrom
  pub cut : GoodIsCut
  pub count : DecodedCount
  pub primary : DecodedBlocks
  pub joined : JoinedCut
  pub twice : Twice
  pub whole : CryptIs
  pub long : CryptLength

-- the good shares of what was gathered
abbrev pub goods_of : ReadValue → List Found → List GoodShare
goods_of f found = good_below (file_params f) f.ueb (by_number f.n found) f.n

-- the crypttext that shares are of
abbrev pub told_by : ParamsValue → List GoodShare → Option (List ℕ)
told_by p shares = cond (are_shares_of p (crypttext_from p shares) shares) (Some (crypttext_from p shares)) None

module _ (f : ReadValue) (found : List Found) where
  abbrev first_of_number : ℕ → Option GoodShare
  first_of_number number = first_good (file_params f) f.ueb number (slice_index_or (by_number f.n found) number [])

  -- the first k, where there are as many
  pub many_are_chosen : ReadFrom → GoodIsCut → IsSharing f.k f.n → (shares : List GoodShare) → shares ≡ take f.k (goods_of f found) → f.k ≤ length shares → AreChosen f found shares
  many_are_chosen read cut sharing shares is many = record {
    taken = all_taken read cut (file_params f) f.ueb first_of_number (λ number. of_first read cut (file_params f) f.ueb number (slice_index_or (by_number f.n found) number [])) sharing f.n shares is many;
    first = is;
  }

  -- fewer give nothing
  pub few_give_none : (shares : List GoodShare) → shares ≡ take f.k (goods_of f found) → length shares < f.k → fit_of found f ≡ None
  few_give_none shares is few = too_few (file_params f) f.key (goods_of f found) shares is few

  module _ (shares : List GoodShare) (chosen : AreChosen f found shares) where
    enough : f.k ≤ length shares
    enough = let h = chosen.taken.many in omega arith

    pub none_is_given : None ≡ told_by (file_params f) shares → fit_of found f ≡ None
    none_is_given e = not_of (file_params f) f.key (goods_of f found) shares chosen.first enough e

    pub bytes_are_given : (bytes : List ℕ) → Some bytes ≡ told_by (file_params f) shares → fit_of found f ≡ Some (crypt f.key bytes)
    bytes_are_given bytes e = of_bytes (file_params f) f.key (goods_of f found) shares chosen.first bytes enough e

  -- what is found is bound to the cap
  pub given_is_bound : ReadLaws → (bytes : List ℕ) → fit_of found f ≡ Some bytes → Bound f bytes
  given_is_bound laws bytes e =
      let sized : Sized = λ q shares taken. length-crypttext laws.count laws.primary q shares taken laws.joined in
      ∣ fit_is_bound laws.read laws.cut (file_params f) f.ueb laws.twice laws.whole laws.long f.key sized first_of_number
      (λ number. of_first laws.read laws.cut (file_params f) f.ueb number (slice_index_or (by_number f.n found) number [])) f.n bytes e ∣₁

  -- shares that are of the crypttext that they give
  pub chosen_are_verified : ReadLaws → (shares : List GoodShare) → AreChosen f found shares → are_shares_of (file_params f) (crypttext_from (file_params f) shares) shares ≡ true → AreVerified f found shares
  chosen_are_verified laws shares chosen told =
      let c : List ℕ = crypttext_from (file_params f) shares in
      let fit : fit_of found f ≡ Some (plain_from f shares) = bytes_are_given shares chosen c (sym (ap (λ b. cond b (Some c) None) told)) in
      record { taken = chosen.taken; bound = given_is_bound laws (plain_from f shares) fit; fit = fit }
