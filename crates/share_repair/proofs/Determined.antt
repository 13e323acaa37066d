-- k shares of a file determine its crypttext.
use Rattle.std.proofs.Common.{◌≡◌, ℕ, ◌<◌, ◌≤◌, List, length, map, get_or, Option, Some, None, refl, sym, ap, subst, ◌∙◌, arith}
use Rattle.std.specs.Prelude.{All}
use Rattle.std.proofs.lemmas.List.{length-map}
use Rattle.std.proofs.lemmas.List.Elements.{All-map}
use Rattle.octets.specs.Sharing.{IsSharing}
use Rattle.erasure.specs.Code.{AreBytes}
use Rattle.erasure.specs.Given.{AreNumbers}
use Rattle.share_codec.specs.Params.{ParamsValue}
use Rattle.share_codec.specs.Meets.{Meets}
use Rattle.share_codec.specs.Shares.{blocks}
use Rattle.share_codec.specs.GoodShare.{GoodShare, IsReadFrom, good_share}
use Rattle.share_repair.specs.Files.{FileLabel, Numbered, AreGivenOf}
use Rattle.share_repair.proofs.Givens.{Found, ReadBack, MadeMeet, given_good}

abbrev pub NoneMeets : Type 0
NoneMeets = (s : List ℕ) (i : ℕ) (p : ParamsValue) (ueb : List ℕ) → good_share s i p ueb ≡ None → ¬ (Meets s i p ueb)

abbrev pub Determine : Type 0
Determine = (p : ParamsValue) (numbers one other : List ℕ) → IsSharing p.k p.n → p.k ≤ length numbers → AreNumbers numbers → length one ≡ p.size → length other ≡ p.size → AreBytes one → AreBytes other
    → All (λ i. blocks p one i ≡ blocks p other i) numbers → one ≡ other

module _ (meet : MadeMeet) (read : Found) (none : NoneMeets) (back : ReadBack) (determine : Determine) (label : FileLabel) (one other : List ℕ) (given : List Numbered) (a : AreGivenOf label one given) (b : AreGivenOf label other given) where
  same_blocks : (k : ℕ) (d : Numbered) → k < length given → blocks label.params one (get_or given k d).0 ≡ blocks label.params other (get_or given k d).0
  same_blocks k d below =
      let p = label.params in
      let g = get_or given k d in
      let good = given_good meet label one given a k d below in
      by_case (good_share g.1 g.0 p label.ueb) refl good
    where
      by_case : (o : Option GoodShare) → good_share (get_or given k d).1 (get_or given k d).0 label.params label.ueb ≡ o → Meets (get_or given k d).1 (get_or given k d).0 label.params label.ueb
          → blocks label.params one (get_or given k d).0 ≡ blocks label.params other (get_or given k d).0
      by_case None e good = absurd (none (get_or given k d).1 (get_or given k d).0 label.params label.ueb e good)
      by_case (Some x) e good =
          let p = label.params in
          let g = get_or given k d in
          let from = read g.1 g.0 p label.ueb x e in
          let first = back p one g.0 g.0 label.ueb x a.file.size (subst (λ s. IsReadFrom s g.0 p label.ueb x) (a.each k d below).1 from) in
          let second = back p other g.0 g.0 label.ueb x b.file.size (subst (λ s. IsReadFrom s g.0 p label.ueb x) (b.each k d below).1 from) in
          sym (ap (λ (y : GoodShare). y.blocks) first) ∙ ap (λ (y : GoodShare). y.blocks) second

  pub determined : one ≡ other
  determined =
      let p = label.params in
      let number : Numbered → ℕ = λ g. g.0 in
      let many = a.many in
      let long = length-map given number in
      determine p (map number given) one other a.file.sharing (omega arith)
      (record {
        small = All-map (λ n. n < 256) number given (λ k d below. let h = (a.each k d below).0 in let l = a.file.sharing.limit in omega arith);
        distinct = a.apart;
      })
      a.file.size b.file.size a.file.bytes b.file.bytes
      (All-map (λ i. blocks p one i ≡ blocks p other i) number given same_blocks)
