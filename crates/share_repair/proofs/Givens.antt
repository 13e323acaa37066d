-- Shares that are given, and what is made of them.
use Rattle.std.proofs.Common.{◌≡◌, ℕ, zero, suc, ◌+◌, ◌<◌, List, [], ◌∷◌, ◌++◌, Fits, w8, length, take, map, get_or, Option, Some, refl, sym, ap, subst, ◌∙◌, arith}
use Rattle.std.specs.Prelude.{All}
use Rattle.std.proofs.lemmas.List.{get_or-map, length-map, map-append, take_more}
use Rattle.std.proofs.lemmas.List.Elements.{All-head, All-tail, All-cons, All-map}
use Rattle.std.proofs.lemmas.List.FromFn.{length-map-range_with_len, get_or-map-range_with_len}
use Rattle.erasure.specs.Code.{AreBytes}
use Rattle.erasure.specs.Given.{AreDistinct}
use Rattle.share_codec.specs.Params.{ParamsValue}
use Rattle.octets.specs.Sharing.{IsSharing}
use Rattle.share_codec.specs.Meets.{Meets}
use Rattle.share_codec.specs.Shares.{share, blocks, roots_of, ueb_hash}
use Rattle.share_codec.specs.GoodShare.{GoodShare, IsReadFrom, good_share}
use Rattle.share_repair.specs.Files.{FileLabel, Numbered, IsCrypttextOf, AreGivenOf, IsShareOf, all_shares}
use Rattle.share_repair.specs.Repaired.{IsOne, AreAmong, strings_of}
use Rattle.share_repair.specs.Decoded.{AreRead, AreGoodOf}

pub bytes_are : (xs : List ℕ) → ((i : ℕ) → Fits w8 (get_or xs i 0)) → AreBytes xs
bytes_are xs each k d below = let small : get_or xs k 0 < 256 = (each k).fits in subst (λ b. b < 256) (any_default xs k d below) small
  where
    any_default : (xs : List ℕ) (k d : ℕ) → k < length xs → get_or xs k 0 ≡ get_or xs k d
    any_default [] k d below = absurd (omega arith)
    any_default (x ∷ xs) zero d below = refl
    any_default (x ∷ xs) (suc k) d below = any_default xs k d (omega arith)

-- ---- the list as strings

from_images : {X Y : Type 0} (P : Y → Type 0) (f : X → Y) (xs : List X) → All P (map f xs) → All (λ x. P (f x)) xs
from_images P f xs all k d below = subst P (get_or-map f xs k d (f d) below) (all k (f d) (let h = length-map xs f in omega arith))

-- what holds of each holds of the one at a place
pub one_holds : {A : Type 0} (bytes : A → List ℕ) (P : Numbered → Type 0) (given : List (ℕ × A)) (i : ℕ) (g : ℕ × A) → i < length given → g ≡ get_or given i g → All P (strings_of bytes given) → P (g.0, bytes g.1)
one_holds {A} bytes P given i g below is all =
    subst (λ (h : ℕ × A). P (h.0, bytes h.1)) (sym is) (from_images P (λ (h : ℕ × A). (h.0, bytes h.1)) given all i g below)

-- what was read of one more
pub read_more : {A : Type 0} (bytes : A → List ℕ) (label : FileLabel) (given : List (ℕ × A)) (i : ℕ) (g : ℕ × A) (shares new : List GoodShare) (x : GoodShare) → i < length given → g ≡ get_or given i g
    → good_share (bytes g.1) g.0 label.params label.ueb ≡ Some x → AreRead label (strings_of bytes (take i given)) shares → new ≡ shares ++ x ∷ []
    → AreRead label (strings_of bytes (take (i + 1) given)) new
read_more {A} bytes label given i g shares new x below is good so_far e =
    let f : Numbered → Option GoodShare = λ h. good_share h.1 h.0 label.params label.ueb in
    let conv : ℕ × A → Numbered = λ h. (h.0, bytes h.1) in
    let taken : strings_of bytes (take (i + 1) given) ≡ strings_of bytes (take i given) ++ conv (get_or given i g) ∷ [] =
    ap (map conv) (take_more given i g below) ∙ map-append conv (take i given) (get_or given i g ∷ []) in
    let here : f (conv (get_or given i g)) ≡ Some x = ap (λ h. f (conv h)) (sym is) ∙ good in
    ap (map f) taken ∙ map-append f (strings_of bytes (take i given)) (conv (get_or given i g) ∷ [])
    ∙ (λ j. so_far j ++ here j ∷ [])
    ∙ sym (map-append (λ share. Some share) shares (x ∷ []))
    ∙ ap (map (λ share. Some share)) (sym e)

-- those that are among the shares that are made, as strings
pub among_strings : {A : Type 0} (bytes : A → List ℕ) (made : List (List ℕ)) (given : List (ℕ × A)) → All (λ (g : ℕ × A). IsOne made g.0 (bytes g.1)) given → AreAmong made (strings_of bytes given)
among_strings {A} bytes made given all = All-map (λ (g : Numbered). IsOne made g.0 g.1) (λ (g : ℕ × A). (g.0, bytes g.1)) given all

pub strings_among : {A : Type 0} (bytes : A → List ℕ) (made : List (List ℕ)) (given : List (ℕ × A)) → AreAmong made (strings_of bytes given) → All (λ (g : ℕ × A). IsOne made g.0 (bytes g.1)) given
strings_among {A} bytes made given all = from_images (λ (g : Numbered). IsOne made g.0 g.1) (λ (g : ℕ × A). (g.0, bytes g.1)) given all

-- a share of a file is among those that are made
pub made_among : (label : FileLabel) (crypttext : List ℕ) (given : List Numbered) (made : List (List ℕ)) → made ≡ all_shares label.params crypttext → AreGivenOf label crypttext given → AreAmong made given
made_among label crypttext given made e is k d below =
    let p = label.params in
    let g = get_or given k d in
    let here = is.each k d below in
    let inside : g.0 < p.n = here.0 in
    let long : length made ≡ p.n = ap length e ∙ length-map-range_with_len (λ i. share p crypttext i) 0 p.n in
    let within : g.0 < length made = omega arith in (
      within,
      ap (λ m. get_or m g.0 []) e ∙ get_or-map-range_with_len (λ i. share p crypttext i) 0 p.n g.0 g.0 [] inside (omega arith) ∙ sym here.1,
    )

pub numbers-strings : {A : Type 0} (bytes : A → List ℕ) (given : List (ℕ × A)) → map (λ (g : Numbered). g.0) (strings_of bytes given) ≡ map (λ (g : ℕ × A). g.0) given
numbers-strings bytes [] = refl
numbers-strings bytes (g ∷ given) = ap (λ ns. g.0 ∷ ns) (numbers-strings bytes given)

-- k of different numbers that are among them are k shares of the file
pub given_made : {A : Type 0} (bytes : A → List ℕ) (label : FileLabel) (crypttext : List ℕ) (given : List (ℕ × A)) (made : List (List ℕ)) → IsCrypttextOf label crypttext → made ≡ all_shares label.params crypttext
    → AreAmong made (strings_of bytes given) → length given ≡ label.params.k → AreDistinct (map (λ (g : ℕ × A). g.0) given) → AreGivenOf label crypttext (strings_of bytes given)
given_made {A} bytes label crypttext given made file e among many apart = record {
  file = file;
  many = length-map given (λ (g : ℕ × A). (g.0, bytes g.1)) ∙ many;
  apart = subst AreDistinct (sym (numbers-strings bytes given)) apart;
  each = λ k d below.
      let p = label.params in
      let g = get_or (strings_of bytes given) k d in
      let here = among k d below in
      let long : length made ≡ p.n = ap length e ∙ length-map-range_with_len (λ i. share p crypttext i) 0 p.n in
      let within : g.0 < length made = here.0 in
      let inside : g.0 < p.n = omega arith in
      (inside, sym here.1 ∙ ap (λ m. get_or m g.0 []) e ∙ get_or-map-range_with_len (λ i. share p crypttext i) 0 p.n g.0 g.0 [] inside (omega arith));
}

-- ---- what is read of them

abbrev pub Found : Type 0
Found = (s : List ℕ) (i : ℕ) (p : ParamsValue) (ueb : List ℕ) (good : GoodShare) → good_share s i p ueb ≡ Some good → IsReadFrom s i p ueb good

abbrev pub ReadBack : Type 0
ReadBack = (p : ParamsValue) (crypttext : List ℕ) (i number : ℕ) (ueb : List ℕ) (good : GoodShare) → length crypttext ≡ p.size → IsReadFrom (share p crypttext i) number p ueb good
    → good ≡ record { number = i; ueb = roots_of p crypttext; blocks = blocks p crypttext i }

-- shares have the numbers of the strings that they are read from
pub numbers_read : Found → (label : FileLabel) (given : List Numbered) (shares : List GoodShare) → AreRead label given shares → map (λ (x : GoodShare). x.number) shares ≡ map (λ (g : Numbered). g.0) given
numbers_read read label [] [] e = refl
numbers_read read label [] (x ∷ shares) e = absurd (cc)
numbers_read read label (g ∷ given) [] e = absurd (cc)
numbers_read read label (g ∷ given) (x ∷ shares) e =
    let e1 : good_share g.1 g.0 label.params label.ueb ≡ Some x = cc in
    let e2 : AreRead label given shares = cc in
    let here = (read g.1 g.0 label.params label.ueb x e1).numbered in
    let more = numbers_read read label given shares e2 in
    λ i. here i ∷ more i

module _ (read : Found) (back : ReadBack) (label : FileLabel) (crypttext : List ℕ) (size : length crypttext ≡ label.params.size) where
  abbrev IsOwn : GoodShare → Type 0
  IsOwn x = (x.number < label.params.n) × (x.blocks ≡ blocks label.params crypttext x.number)

  abbrev IsMade : Numbered → Type 0
  IsMade g = (g.0 < label.params.n) × (g.1 ≡ share label.params crypttext g.0)

  one_read : (g : Numbered) (x : GoodShare) → good_share g.1 g.0 label.params label.ueb ≡ Some x → g.1 ≡ share label.params crypttext g.0 → (x.number ≡ g.0) × (x.blocks ≡ blocks label.params crypttext g.0)
  one_read g x e is =
      let from = subst (λ s. IsReadFrom s g.0 label.params label.ueb x) is (read g.1 g.0 label.params label.ueb x e) in
      let b = back label.params crypttext g.0 g.0 label.ueb x size from in
      (ap (λ (y : GoodShare). y.number) b, ap (λ (y : GoodShare). y.blocks) b)

  all_read : (given : List Numbered) (shares : List GoodShare) → AreRead label given shares → All IsMade given
      → All IsOwn shares × (map (λ (x : GoodShare). x.number) shares ≡ map (λ (g : Numbered). g.0) given)
  all_read [] [] e each = (λ k d below. absurd (omega arith), refl)
  all_read [] (x ∷ shares) e each = absurd (cc)
  all_read (g ∷ given) [] e each = absurd (cc)
  all_read (g ∷ given) (x ∷ shares) e each =
      let here = All-head IsMade g given each in
      let e1 : good_share g.1 g.0 label.params label.ueb ≡ Some x = cc in
      let e2 : AreRead label given shares = cc in
      let o = one_read g x e1 here.1 in
      let more = all_read given shares e2 (All-tail IsMade g given each) in (
        All-cons IsOwn x shares (subst (λ m. m < label.params.n) (sym o.0) here.0, o.1 ∙ ap (blocks label.params crypttext) (sym o.0)) more.0,
        λ i. o.0 i ∷ more.1 i,
      )

-- so they are those of the crypttext
pub good_of : Found → ReadBack → (label : FileLabel) (crypttext : List ℕ) (given : List Numbered) (shares : List GoodShare) → AreRead label given shares → AreGivenOf label crypttext given → AreGoodOf label.params crypttext shares
good_of read back label crypttext given shares e is =
    let all = all_read read back label crypttext is.file.size given shares e is.each in
    let long : length shares ≡ length given = sym (length-map shares (λ (x : GoodShare). x.number)) ∙ ap length all.1 ∙ length-map given (λ (g : Numbered). g.0) in
    record {
      sharing = is.file.sharing;
      some = is.file.some;
      bytes = is.file.bytes;
      size = is.file.size;
      many = long ∙ is.many;
      apart = subst AreDistinct (sym all.1) is.apart;
      each = all.0;
    }

abbrev pub MadeMeet : Type 0
MadeMeet = (p : ParamsValue) (crypttext : List ℕ) (i : ℕ) → IsSharing p.k p.n → 0 < p.size → length crypttext ≡ p.size → i < p.n → Meets (share p crypttext i) i p (ueb_hash p crypttext)

-- and each is a good one
pub given_good : MadeMeet → (label : FileLabel) (crypttext : List ℕ) (given : List Numbered) → AreGivenOf label crypttext given → All (λ (g : Numbered). IsShareOf label g.0 g.1) given
given_good meet label crypttext given is k d below =
    let g = get_or given k d in
    let here = is.each k d below in
    let good = meet label.params crypttext g.0 is.file.sharing is.file.some is.file.size here.0 in
    let sealed = subst (λ u. Meets (share label.params crypttext g.0) g.0 label.params u) is.file.hash good in
    subst (λ s. Meets s g.0 label.params label.ueb) (sym here.1) sealed
