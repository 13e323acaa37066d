-- What calls leave of a grid, one after the other; and the shares that are lent to it.
use Rattle.std.proofs.Common.{◌≡◌, ◌<◌, ◌≤◌, ℕ, List, length, map, refl, sym, ap, subst, ◌∙◌, arith, Vec, Global}
use Rattle.std.specs.Prelude.{All}
use Rattle.std.proofs.lemmas.List.{length-map, get_or-map}
use Rattle.std.proofs.lemmas.List.Elements.{All-map}
use Rattle.std.proofs.lemmas.List.FromFn.{length-map-range_with_len}
use Rattle.grid.specs.GridState.{GridState}
use Rattle.grid.specs.Leaves.{Leaves}
use Rattle.share_codec.specs.Shares.{share}
use Rattle.share_repair.specs.Files.{FileLabel, Numbered}
use Rattle.share_repair.specs.Repaired.{AreRepaired}

pub leaves_same : (g : GridState) → Leaves g g
leaves_same g = record {
  servers = refl;
  rises = λ s. omega arith;
  honest = λ h. h;
  was_honest = λ h. h;
  sums = λ h s. refl;
}

pub leaves_then : (a b c : GridState) → Leaves a b → Leaves b c → Leaves a c
leaves_then a b c x y = record {
  servers = y.servers ∙ x.servers;
  rises = λ s. let p = x.rises s in let q = y.rises s in omega arith;
  honest = λ h. y.honest (x.honest h);
  was_honest = λ h. x.was_honest (y.was_honest h);
  sums = λ h s. y.sums (x.honest h) s ∙ x.sums h s;
}

from_images : {X Y : Type 0} (P : Y → Type 0) (f : X → Y) (xs : List X) → All P (map f xs) → All (λ x. P (f x)) xs
from_images P f xs all k d below = subst P (get_or-map f xs k d (f d) below) (all k (f d) (let h = length-map xs f in omega arith))

-- there are at most 256 shares of a file, and none that is lent is empty
pub lent_few : {A : Type 0} (bytes : A → List ℕ) (label : FileLabel) (given : List Numbered) (lent : List A) (made : List (List ℕ)) → map bytes lent ≡ made → AreRepaired label given made → length lent ≤ 256
lent_few bytes label given lent made e is =
    let long : length lent ≡ label.params.n = sym (length-map lent bytes) ∙ ap length (e ∙ is.all) ∙ length-map-range_with_len (λ i. share label.params is.crypttext i) 0 label.params.n in
    let limit = is.origin.file.sharing.limit in
    omega arith

pub lent_some : {A : Type 0} (bytes : A → List ℕ) (lent : List A) (made : List (Vec ℕ Global)) → map bytes lent ≡ map (λ (share : Vec ℕ Global). share.items) made
    → All (λ (share : Vec ℕ Global). 0 < length share.items) made → All (λ x. 0 < length (bytes x)) lent
lent_some bytes lent made e some =
    from_images (λ s. 0 < length s) bytes lent
    (subst (All (λ s. 0 < length s)) (sym e) (All-map (λ s. 0 < length s) (λ (share : Vec ℕ Global). share.items) made some))
