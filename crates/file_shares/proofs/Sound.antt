-- What is found by verification is bound to the cap.
use Rattle.std.proofs.Common.{◌≡◌, ℕ, ◌≤◌, List, [], ◌∷◌, length, take, true, cond, Option, Some, None, refl, sym, ap, subst, ◌∙◌, arith}
use Rattle.std.specs.Prelude.{nat_le, All, IfSome}
use Rattle.std.specs.List.{range_with_len, filter_map}
use Rattle.std.specs.Cmp.Lexicographic.{bytes_decides}
use Rattle.std.proofs.lemmas.Bool.{and_parts, leb-true}
use Rattle.std.proofs.lemmas.Option.{cond_some, none-some}
use Rattle.std.proofs.lemmas.List.{length-take-le}
use Rattle.std.proofs.lemmas.List.Elements.{All-take, All-head}
use Rattle.octets.specs.Sharing.{IsSharing}
use Rattle.aes_ctr.specs.Crypt.{crypt, crypt_from}
use Rattle.share_codec.specs.Params.{ParamsValue}
use Rattle.share_codec.specs.Shares.{roots_of}
use Rattle.share_codec.specs.GoodShare.{GoodShare}
use Rattle.file_shares.specs.Fit.{crypttext_from, has_padding, has_root, are_shares_of, given_by, fit_in}
use Rattle.file_shares.specs.Bound.{IsBoundBy}
use Rattle.file_shares.proofs.Tools.{true_or_false}
use Rattle.file_shares.proofs.Sealed.{ReadFrom, GoodIsCut}
use Rattle.file_shares.proofs.Goods.{IsOf, IsKnown, all_known, all_taken}
use Rattle.file_shares.proofs.Lengths.{Sized}

-- what the laws of the cipher say
abbrev pub Twice : Type 0
Twice = (key : List ℕ) (p : ℕ) (bytes : List ℕ) → crypt_from key p (crypt_from key p bytes) ≡ bytes

abbrev pub CryptIs : Type 0
CryptIs = (key bytes : List ℕ) → crypt key bytes ≡ crypt_from key 0 bytes

abbrev pub CryptLength : Type 0
CryptLength = (key : List ℕ) (p : ℕ) (bytes : List ℕ) → length (crypt_from key p bytes) ≡ length bytes

pub crypt-twice : Twice → CryptIs → (key bytes : List ℕ) → crypt key (crypt key bytes) ≡ bytes
crypt-twice twice is key bytes = ap (crypt key) (is key bytes) ∙ is key (crypt_from key 0 bytes) ∙ twice key 0 bytes

pub length-crypt : CryptIs → CryptLength → (key bytes : List ℕ) → length (crypt key bytes) ≡ length bytes
length-crypt is long key bytes = ap length (is key bytes) ∙ long key 0 bytes

module _ (read : ReadFrom) (is_cut : GoodIsCut) (p : ParamsValue) (ueb : List ℕ) (twice : Twice) (is : CryptIs) (long : CryptLength) (key : List ℕ) where
  bound_if : (crypttext : List ℕ) (shares : List GoodShare) → All (IsKnown read is_cut p ueb) shares → length crypttext ≡ p.size → has_root p crypttext shares ≡ true → IsBoundBy p key ueb (crypt key crypttext)
  bound_if crypttext [] all size top = cc
  bound_if crypttext (share ∷ shares) all size top =
      let sealed = (All-head (IsKnown read is_cut p ueb) share shares all).sealed in
      record {
        size = length-crypt is long key crypttext ∙ size;
        roots = share.ueb;
        hashes = sealed.hashes;
        extension = sealed.extension;
        top = ap (λ c. (roots_of p c).crypttext_root) (crypt-twice twice is key crypttext) ∙ (bytes_decides (roots_of p crypttext).crypttext_root share.ueb.crypttext_root).0 top;
      }

  sharing_of : (crypttext : List ℕ) (shares : List GoodShare) → All (IsKnown read is_cut p ueb) shares → has_root p crypttext shares ≡ true → IsSharing p.k p.n
  sharing_of crypttext [] all top = cc
  sharing_of crypttext (share ∷ shares) all top = (All-head (IsKnown read is_cut p ueb) share shares all).cut.sharing

  module _ (sized : Sized) (f : ℕ → Option GoodShare) (each : (number : ℕ) → IfSome (f number) (IsOf read is_cut p ueb number)) (n : ℕ) where
    abbrev goods : List GoodShare
    goods = filter_map f (range_with_len 0 n)

    bound_given : (b : List ℕ) → p.k ≤ length goods → given_by p key (take p.k goods) ≡ Some b → IsBoundBy p key ueb b
    bound_given b many e =
        let shares = take p.k goods in
        let c = crypttext_from p shares in
        let both = cond_some (are_shares_of p c shares) (crypt key c) b e in
        let parts = and_parts (has_padding p shares) (has_root p c shares) both.0 in
        let known : All (IsKnown read is_cut p ueb) shares = All-take (IsKnown read is_cut p ueb) p.k goods (all_known read is_cut p ueb f each n) in
        let enough : p.k ≤ length shares = (let h = length-take-le p.k goods many in omega arith) in
        let taken = all_taken read is_cut p ueb f each (sharing_of c shares known parts.1) n shares refl enough in
        subst (IsBoundBy p key ueb) both.1 (bound_if c shares known (sized p shares taken) parts.1)

    pub fit_is_bound : (b : List ℕ) → fit_in p key goods ≡ Some b → IsBoundBy p key ueb b
    fit_is_bound b e =
        true_or_false (nat_le p.k (length goods)) _
        (λ yes. bound_given b (leb-true p.k (length goods) yes) (sym (ap (λ t. cond t (given_by p key (take p.k goods)) None) yes) ∙ e))
        (λ no. absurd (none-some b (sym (ap (λ t. cond t (given_by p key (take p.k goods)) None) no) ∙ e)))
