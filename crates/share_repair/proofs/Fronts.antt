-- What bytes begin with.
use Rattle.std.proofs.Common.{◌≡◌, ◌≢◌, ℕ, ◌<◌, List, [], ◌∷◌, ◌++◌, length, take, drop, codes, false, refl, sym, ap, ◌∙◌, subst, arith, append_assoc, length-append}
use Rattle.std.specs.Prelude.{nat_eq, IsOkAnd}
use Rattle.std.specs.Cmp.Lexicographic.{other_text, pointwise}
use Rattle.std.specs.Prelude.{Option, Some}
use Rattle.std.specs.declared.result.Result.{Result}
use Rattle.std.specs.declared.result.Result.TheVariants.{Err}
use Rattle.std.proofs.lemmas.List.{append-nil, drop_at}
use Rattle.std.proofs.Math.Seq.{take-append_seam}
use Rattle.octets.specs.Sharing.{IsSharing}
use Rattle.tag_hash.specs.Decimal.{decimal_text}
use Rattle.tag_hash.specs.Netstring.{netstring}
use Rattle.share_codec.specs.Params.{ParamsValue}
use Rattle.share_codec.specs.Segments.{segment_size, segment_count}
use Rattle.share_codec.specs.Texts.{ShareTexts, share_text}
use Rattle.share_codec.specs.Ueb.{entry, ueb_text}
use Rattle.share_codec.specs.declared.ueb.Ueb.{Ueb}

pub never : {T E : Type 0} (r : Result T E) (x : E) (P : T → Type 0) → r ≡ Err x → IsOkAnd r P → ⊥
never {T} {E} r x P e h = subst (λ (q : Result T E). IsOkAnd q P) e h

-- a netstring is longer than its bytes
pub length-netstring : (value rest bytes : List ℕ) → bytes ≡ netstring value ++ rest → length value < length bytes
unfolding netstring
length-netstring value rest bytes e =
    let long = ap length e in
    grind (arith, length-append)

-- a test of a front that failed
pub lacks_front : (bytes prefix rest : List ℕ) → pointwise nat_eq (take (length prefix) bytes) prefix ≡ false → bytes ≢ prefix ++ rest
lacks_front bytes prefix rest e is =
    other_text (take (length prefix) bytes) prefix (sym e) (ap (take (length prefix)) is ∙ take-append_seam prefix rest)

-- an entry is its key, a colon and a netstring
pub entry_text : (text key value rest : List ℕ) → text ≡ entry key value ++ rest → text ≡ key ++ 58 ∷ (netstring value ++ rest)
unfolding entry
entry_text text key value rest e = e ∙ append_assoc key (58 ∷ netstring value) rest

-- so behind its key is a colon
pub behind_key : (text key value rest one : List ℕ) → text ≡ entry key value ++ rest → one ≡ drop (length key) text → one ≡ 58 ∷ (netstring value ++ rest)
behind_key text key value rest one e is =
    is ∙ ap (drop (length key)) (entry_text text key value rest e) ∙ drop_at key (58 ∷ (netstring value ++ rest)) (length key) refl

-- and behind that the netstring
pub behind_colon : (one two more : List ℕ) → one ≡ 58 ∷ more → two ≡ drop 1 one → two ≡ more
behind_colon one two more e is = is ∙ ap (drop 1) e

-- what stands in an extension block behind each entry
abbrev pub behind6 : ParamsValue → Ueb → List ℕ
behind6 p roots = entry (codes "total_shares") (decimal_text p.n) ++ []

abbrev pub behind5 : ParamsValue → Ueb → List ℕ
behind5 p roots = entry (codes "size") (decimal_text p.size) ++ behind6 p roots

abbrev pub behind4 : ParamsValue → Ueb → List ℕ
behind4 p roots = entry (codes "share_root_hash") roots.share_root ++ behind5 p roots

abbrev pub behind3 : ParamsValue → Ueb → List ℕ
behind3 p roots = entry (codes "segment_size") (decimal_text (segment_size p)) ++ behind4 p roots

abbrev pub behind2 : ParamsValue → Ueb → List ℕ
behind2 p roots = entry (codes "num_segments") (decimal_text (segment_count p)) ++ behind3 p roots

abbrev pub behind1 : ParamsValue → Ueb → List ℕ
behind1 p roots = entry (codes "needed_shares") (decimal_text p.k) ++ behind2 p roots

pub ueb_text-is : (p : ParamsValue) (roots : Ueb) → ueb_text p roots ≡ entry (codes "crypttext_root_hash") roots.crypttext_root ++ behind1 p roots
unfolding ueb_text
ueb_text-is p roots = rw (append-nil (entry (codes "total_shares") (decimal_text p.n))) refl

-- numbers that are those of a file
pub sharing_as : (k n needed made : ℕ) → needed ≡ k → made ≡ n → IsSharing k n → IsSharing needed made
sharing_as k n needed made e f h = record {
  some = let g = h.some in omega arith;
  enough = let g = h.enough in omega arith;
  limit = let g = h.limit in omega arith;
}

pub params_as : (p : ParamsValue) (k n size : ℕ) (found : Option ParamsValue) → k ≡ p.k → n ≡ p.n → size ≡ p.size → found ≡ Some (record { k = k; n = n; size = size }) → found ≡ Some p
params_as p k n size found e f g is = is ∙ (λ i. Some (record { k = e i; n = f i; size = g i }))

-- the third of six texts
pub share_text-is : (t : ShareTexts) → share_text t ≡ netstring t.version ++ (netstring t.number ++ (netstring t.extension ++ (netstring t.hashes ++ (netstring t.siblings ++ netstring t.blocks))))
unfolding share_text
share_text-is t = refl
