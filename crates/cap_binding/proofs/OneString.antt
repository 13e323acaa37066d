-- Where no strings collide, one cap binds one byte string.
use Rattle.std.proofs.Common.{◌≡◌, ℕ, ◌<◌, ◌≤◌, List, length, Option, Some, None, refl, sym, ap, subst, ◌∙◌, arith}
use Rattle.std.specs.Prelude.{All}
use Rattle.std.specs.List.{range_with_len}
use Rattle.std.proofs.lemmas.List.FromFn.{length-range_with_len}
use Rattle.octets.specs.Sharing.{IsSharing}
use Rattle.aes_ctr.specs.Crypt.{crypt, crypt_from}
use Rattle.tag_hash.specs.Use.{Use}
use Rattle.tag_hash.specs.Collisions.{NoCollision, Includes}
use Rattle.erasure.specs.Code.{AreBytes}
use Rattle.erasure.specs.Given.{AreNumbers}
use Rattle.share_codec.specs.Params.{ParamsValue}
use Rattle.share_codec.specs.Shares.{blocks, roots_of, share, ueb_hash}
use Rattle.share_codec.specs.Meets.{Meets}
use Rattle.share_codec.specs.GoodShare.{GoodShare, IsReadFrom, good_share}
use Rattle.share_codec.specs.Uses.{share_uses, meets_uses}
use Rattle.caps.specs.Fields.{ReadValue}
use Rattle.file_shares.specs.Numbers.{params_of}
use Rattle.cap_binding.specs.Binds.{Binds}
use Rattle.cap_binding.specs.Found.{bound_uses}
use Rattle.cap_binding.proofs.Members.{All-range, range_apart}

-- what the laws of shares say
pub record ShareLaws : Type 0 where
  pub found : (s : List ℕ) (i : ℕ) (p : ParamsValue) (ueb : List ℕ) (good : GoodShare) → good_share s i p ueb ≡ Some good → IsReadFrom s i p ueb good
  pub none : (s : List ℕ) (i : ℕ) (p : ParamsValue) (ueb : List ℕ) → good_share s i p ueb ≡ None → Meets s i p ueb → ⊥
  pub made : (uses : List Use) (p : ParamsValue) (crypttext s : List ℕ) (i : ℕ) → NoCollision uses → Includes uses (share_uses p crypttext) → Includes uses (meets_uses s i p)
      → Meets s i p (ueb_hash p crypttext) → s ≡ share p crypttext i
  pub meet : (p : ParamsValue) (crypttext : List ℕ) (i : ℕ) → IsSharing p.k p.n → 0 < p.size → length crypttext ≡ p.size → i < p.n → Meets (share p crypttext i) i p (ueb_hash p crypttext)
  pub back : (p : ParamsValue) (crypttext : List ℕ) (i number : ℕ) (ueb : List ℕ) (good : GoodShare) → length crypttext ≡ p.size → IsReadFrom (share p crypttext i) number p ueb good
      → good ≡ record { number = i; ueb = roots_of p crypttext; blocks = blocks p crypttext i }
  pub uses : (p : ParamsValue) (crypttext : List ℕ) (i : ℕ) → IsSharing p.k p.n → 0 < p.size → length crypttext ≡ p.size → i < p.n → Includes (share_uses p crypttext) (meets_uses (share p crypttext i) i p)
  pub determine : (p : ParamsValue) (numbers one other : List ℕ) → IsSharing p.k p.n → p.k ≤ length numbers → AreNumbers numbers → length one ≡ p.size → length other ≡ p.size
      → AreBytes one → AreBytes other → All (λ i. blocks p one i ≡ blocks p other i) numbers → one ≡ other

module _ (laws : ShareLaws) (uses : List Use) (apart : NoCollision uses) (p : ParamsValue) (sharing : IsSharing p.k p.n) (some : 0 < p.size)
    (one other : List ℕ) (long : length one ≡ p.size) (as_long : length other ≡ p.size)
    (mine : Includes uses (share_uses p one)) (theirs : Includes uses (share_uses p other)) (same : ueb_hash p one ≡ ueb_hash p other) where
  same_share : (i : ℕ) → i < p.n → share p other i ≡ share p one i
  same_share i below =
      laws.made uses p one (share p other i) i apart mine (λ u among. theirs u (laws.uses p other i sharing some as_long below u among))
      (subst (λ ueb. Meets (share p other i) i p ueb) (sym same) (laws.meet p other i sharing some as_long below))

  same_blocks_by : (i : ℕ) → i < p.n → (o : Option GoodShare) → good_share (share p one i) i p (ueb_hash p one) ≡ o → blocks p one i ≡ blocks p other i
  same_blocks_by i below None e = absurd (laws.none (share p one i) i p (ueb_hash p one) e (laws.meet p one i sharing some long below))
  same_blocks_by i below (Some good) e =
      let read : IsReadFrom (share p one i) i p (ueb_hash p one) good = laws.found (share p one i) i p (ueb_hash p one) good e in
      let again : IsReadFrom (share p other i) i p (ueb_hash p one) good = subst (λ s. IsReadFrom s i p (ueb_hash p one) good) (sym (same_share i below)) read in
      ap (λ (g : GoodShare). g.blocks) (sym (laws.back p one i i (ueb_hash p one) good long read) ∙ laws.back p other i i (ueb_hash p one) good as_long again)

  pub same_crypttext : AreBytes one → AreBytes other → one ≡ other
  same_crypttext bytes others =
      let enough = sharing.enough in
      let limit = sharing.limit in
      let many : length (range_with_len 0 p.k) ≡ p.k = length-range_with_len 0 p.k in
      let numbers : AreNumbers (range_with_len 0 p.k) = record { small = All-range (λ i. i < 256) p.k (λ i below. omega arith); distinct = range_apart p.k } in
      laws.determine p (range_with_len 0 p.k) one other sharing (omega arith) numbers long as_long bytes others
      (All-range (λ i. blocks p one i ≡ blocks p other i) p.k (λ i below. same_blocks_by i (omega arith) (good_share (share p one i) i p (ueb_hash p one)) refl))

-- what the laws of the cipher say
pub record CipherLaws : Type 0 where
  pub long : (key : List ℕ) (p : ℕ) (bytes : List ℕ) → length (crypt_from key p bytes) ≡ length bytes
  pub twice : (key : List ℕ) (p : ℕ) (bytes : List ℕ) → crypt_from key p (crypt_from key p bytes) ≡ bytes
  pub whole : (key bytes : List ℕ) → crypt key bytes ≡ crypt_from key 0 bytes
  pub bytes : (key : List ℕ) (p : ℕ) (bytes : List ℕ) → AreBytes key → AreBytes bytes → AreBytes (crypt_from key p bytes)

module _ (laws : ShareLaws) (cipher : CipherLaws) where
  crypt_long : (key bytes : List ℕ) → length (crypt key bytes) ≡ length bytes
  crypt_long key bytes = ap length (cipher.whole key bytes) ∙ cipher.long key 0 bytes

  crypt_twice : (key bytes : List ℕ) → crypt key (crypt key bytes) ≡ bytes
  crypt_twice key bytes = cipher.whole key (crypt key bytes) ∙ ap (crypt_from key 0) (cipher.whole key bytes) ∙ cipher.twice key 0 bytes

  crypt_bytes : (key bytes : List ℕ) → AreBytes key → AreBytes bytes → AreBytes (crypt key bytes)
  crypt_bytes key bytes of_key are = subst (λ (bs : List ℕ). AreBytes bs) (sym (cipher.whole key bytes)) (cipher.bytes key 0 bytes of_key are)

  uses_at : (f : ReadValue) (bytes : List ℕ) (uses : List Use) → length bytes ≡ f.size → Includes uses (bound_uses f bytes) → Includes uses (share_uses (params_of f.k f.n f.size) (crypt f.key bytes))
  unfolding bound_uses
  uses_at f bytes uses size among = subst (λ n. Includes uses (share_uses (params_of f.k f.n n) (crypt f.key bytes))) size among

  ueb_at : (f : ReadValue) (bytes : List ℕ) → Binds f bytes → ueb_hash (params_of f.k f.n f.size) (crypt f.key bytes) ≡ f.ueb
  ueb_at f bytes b =
      let size : length bytes ≡ f.size = ap (λ (g : ReadValue). g.size) b.same in
      ap (λ n. ueb_hash (params_of f.k f.n n) (crypt f.key bytes)) (sym size) ∙ ap (λ (g : ReadValue). g.ueb) b.same

  pub one_string : (uses : List Use) (f : ReadValue) (one other : List ℕ) → NoCollision uses → Includes uses (bound_uses f one) → Includes uses (bound_uses f other)
      → IsSharing f.k f.n → AreBytes f.key → AreBytes one → AreBytes other → Binds f one → Binds f other → one ≡ other
  one_string uses f one other apart mine theirs sharing of_key bytes others binds binds_other =
      let size : length one ≡ f.size = ap (λ (g : ReadValue). g.size) binds.same in
      let other_size : length other ≡ f.size = ap (λ (g : ReadValue). g.size) binds_other.same in
      let some : 0 < f.size = subst (λ n. 0 < n) size binds.some in
      let same : crypt f.key one ≡ crypt f.key other =
      same_crypttext laws uses apart (params_of f.k f.n f.size) sharing some (crypt f.key one) (crypt f.key other)
      (crypt_long f.key one ∙ size) (crypt_long f.key other ∙ other_size)
      (uses_at f one uses size mine) (uses_at f other uses other_size theirs) (ueb_at f one binds ∙ sym (ueb_at f other binds_other))
      (crypt_bytes f.key one of_key bytes) (crypt_bytes f.key other of_key others) in
      sym (crypt_twice f.key one) ∙ ap (crypt f.key) same ∙ crypt_twice f.key other
