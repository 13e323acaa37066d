-- What stands in a grid while it is repaired.
use Rattle.std.proofs.Common.{◌≡◌, ◌⊎◌, inl, inr, ℕ, ◌+◌, ◌<◌, List, [], ◌∷◌, ◌++◌, length, take, map, get_or, Bool, true, false, cond, Some, None, unwrap_or, refl, sym, ap, subst, ◌∙◌, arith}
use Rattle.std.specs.Prelude.{All, ◌==◌, ◌&&◌, nat_lt, slice_get, OnOk, IfErr}
use Rattle.std.specs.Rc.{rc_slice_items}
use Rattle.std.specs.Ordering.{is_eq, eq_by_cmp, nat_cmp}
use Rattle.std.specs.declared.cmp.Ordering.{Ordering}
use Rattle.std.specs.declared.cmp.Ordering.TheVariants.{Less, Equal, Greater}
use Rattle.std.specs.declared.result.Result.{Result}
use Rattle.std.specs.declared.result.Result.TheVariants.{Ok, Err}
use Rattle.std.specs.Cmp.Lexicographic.{slice_cmp}
use Rattle.std.proofs.lemmas.Bool.{eqb-true}
use Rattle.share_store.specs.Shares.{ShareKey, key_cmp}
use Rattle.share_store.specs.MapLaws.{key_cmp_exact}
use Rattle.grid.specs.declared.fault.GridFault.{GridFault}
use Rattle.grid.specs.Standing.{Standing, standing}
use Rattle.grid.specs.GridState.{GridState, maps_of, stood, IsHonest}
use Rattle.grid.specs.Leaves.{IsUnchanged}
use Rattle.grid.specs.Changes.{without}
use Rattle.grid.specs.Changed.{ArePut, PutStopsAt}
use Rattle.grid.specs.Placement.{server_of, placed}
use Rattle.share_repair.specs.Files.{Verifies}
use Rattle.share_repair.specs.declared.judging.Judged.{Judged}
use Rattle.grid.specs.Found.{found_bytes}
use Rattle.std.proofs.lemmas.List.{get_or-map, length-map, map-append, take_more}
use Rattle.share_repair.specs.Judged.{found_of}
use Rattle.share_repair.specs.Kept.{KeepsGood, IsStandingShare, LosesAtMost}

pub equal : (o : Ordering) → is_eq o ≡ true → o ≡ Equal
equal Less e = cc
equal Equal e = refl
equal Greater e = cc

-- what a loss changes, it changes at its place
lost_at : (server : ℕ) (key : ShareKey) (before : Standing) (s : ℕ) (q : ShareKey) → (without server key before s q ≡ before s q) ⊎ ((without server key before s q ≡ None) × (s ≡ server) × (q ≡ key))
lost_at server key before s q = by_case (s == server) (eq_by_cmp key_cmp q key) refl refl
  where
    by_case : (a b : Bool) → (s == server) ≡ a → eq_by_cmp key_cmp q key ≡ b → (without server key before s q ≡ before s q) ⊎ ((without server key before s q ≡ None) × (s ≡ server) × (q ≡ key))
    by_case true true h k = inr ((λ i. cond (h i && k i) None (before s q)), eqb-true s server h, key_cmp_exact q key (equal (key_cmp q key) k))
    by_case true false h k = inl ((λ i. cond (h i && k i) None (before s q)))
    by_case false b h k = inl ((λ i. cond (h i && eq_by_cmp key_cmp q key) None (before s q)))

pub loses_none : (index : List ℕ) (judged : Judged) (g : GridState) → LosesAtMost index judged g g
loses_none index judged g = record { each = λ server key. inl refl }

pub loses_same : (index : List ℕ) (judged : Judged) (old new : GridState) → maps_of new ≡ maps_of old → LosesAtMost index judged old new
loses_same index judged old new e = record { each = λ server key. inl (ap (λ maps. standing maps server key) e) }

pub loses_one : (index : List ℕ) (judged : Judged) (old new : GridState) → stood new ≡ without judged.server (index, judged.number) (stood old)
    → ¬ (Verifies judged.number (rc_slice_items judged.bytes)) → LosesAtMost index judged old new
loses_one index judged old new e bad = record {
  each = λ server key. by_case server key (lost_at judged.server (index, judged.number) (stood old) server key);
}
  where
    by_case : (server : ℕ) (key : ShareKey)
        → (without judged.server (index, judged.number) (stood old) server key ≡ stood old server key)
        ⊎ ((without judged.server (index, judged.number) (stood old) server key ≡ None) × (server ≡ judged.server) × (key ≡ (index, judged.number)))
        → (stood new server key ≡ stood old server key) ⊎ ((stood new server key ≡ None) × (server ≡ judged.server) × (key ≡ (index, judged.number)) × ¬ (Verifies judged.number (rc_slice_items judged.bytes)))
    by_case server key (inl same) = inl (ap (λ (f : Standing). f server key) e ∙ same)
    by_case server key (inr at) = inr (ap (λ (f : Standing). f server key) e ∙ at.0, at.1, at.2, bad)

pub keeps_same : (index : List ℕ) (g : GridState) → KeepsGood index g g
keeps_same index g = record { kept = λ server key s here good. here }

-- one step more, in which one that is no good share of any file may go
pub keeps_lost : (index : List ℕ) (judged : Judged) (old now new : GridState) → KeepsGood index old now → IsStandingShare old index judged → LosesAtMost index judged now new → KeepsGood index old new
keeps_lost index judged old now new so_far stands step = record {
  kept = λ server key s here good. by_case server key s here good (step.each server key);
}
  where
    by_case : (server : ℕ) (key : ShareKey) (s : List ℕ) → stood old server key ≡ Some s → (key.0 ≡ index → Verifies key.1 s)
        → (stood new server key ≡ stood now server key) ⊎ ((stood new server key ≡ None) × (server ≡ judged.server) × (key ≡ (index, judged.number)) × ¬ (Verifies judged.number (rc_slice_items judged.bytes)))
        → stood new server key ≡ Some s
    by_case server key s here good (inl same) = same ∙ so_far.kept server key s here good
    by_case server key s here good (inr at) =
        let there : stood old judged.server (index, judged.number) ≡ Some s = subst (λ (k : ℕ × ShareKey). stood old k.0 k.1 ≡ Some s) (λ i. (at.1 i, at.2 i)) here in
        let same : s ≡ rc_slice_items judged.bytes = (let f = sym there ∙ stands in cc) in
        let verified : Verifies key.1 s = good (ap (λ (k : ShareKey). k.0) at.2) in
        absurd (at.3 (subst (λ (k : ℕ × List ℕ). Verifies k.0 k.1) (λ i. ((at.2 i).1, same i)) verified))

-- a put keeps what stands
placed_keeps : (count : ℕ) (index : List ℕ) (shares : List (List ℕ)) (before : Standing) (s : ℕ) (q : ShareKey) (x : List ℕ) → before s q ≡ Some x → placed count index shares before s q ≡ Some x
placed_keeps count index shares before s q x e = by_case (eq_by_cmp (slice_cmp nat_cmp) q.0 index && nat_lt q.1 (length shares) && s == server_of count index q.1)
  where
    by_case : (b : Bool) → cond b (Some (unwrap_or (before s q) (unwrap_or (slice_get shares q.1) []))) (before s q) ≡ Some x
    by_case true = ap (λ o. Some (unwrap_or o (unwrap_or (slice_get shares q.1) []))) e
    by_case false = e

put_keeps : (index : List ℕ) (shares : List (List ℕ)) (old new : GridState) → ArePut index shares old new → KeepsGood index old new
put_keeps index shares old new put = record {
  kept = λ server key s here good. ap (λ (f : Standing). f server key) put.stands ∙ placed_keeps (length old.stores) index shares (stood old) server key s here;
}

pub keeps_then : (index : List ℕ) (a b c : GridState) → KeepsGood index a b → KeepsGood index b c → KeepsGood index a c
keeps_then index a b c x y = record { kept = λ server key s here good. y.kept server key s (x.kept server key s here good) good }

pub keeps_unchanged : (index : List ℕ) (old new : GridState) → IsUnchanged old new → KeepsGood index old new
keeps_unchanged index old new same = record { kept = λ server key s here good. ap (λ maps. standing maps server key) same.maps ∙ here }

-- whatever a put answers
pub keeps_put : {T : Type 0} (result : Result T GridFault) (index : List ℕ) (shares : List (List ℕ)) (old new : GridState) → OnOk result (ArePut index shares old new) → IfErr result (PutStopsAt index shares old new) → IsHonest old → KeepsGood index old new
keeps_put (Ok x) index shares old new ok err honest = put_keeps index shares old new ok
keeps_put (Err fault) index shares old new ok err honest = put_keeps index (take err.n shares) old new (err.put honest)

-- one more of them, as they were found
pub same_more : {A : Type 0} (bytes : A → List ℕ) (found : List (ℕ × ℕ × A)) (i : ℕ) (f : ℕ × ℕ × A) (judged new : List Judged) (x : Judged) → i < length found → f ≡ get_or found i f
    → found_of x ≡ found_bytes bytes f → map found_of judged ≡ map (found_bytes bytes) (take i found) → new ≡ judged ++ x ∷ [] → map found_of new ≡ map (found_bytes bytes) (take (i + 1) found)
same_more {A} bytes found i f judged new x below is here so_far e =
    ap (map found_of) e ∙ map-append found_of judged (x ∷ [])
    ∙ (λ j. so_far j ++ (here ∙ ap (found_bytes bytes) is) j ∷ [])
    ∙ sym (map-append (found_bytes bytes) (take i found) (get_or found i f ∷ []))
    ∙ sym (ap (map (found_bytes bytes)) (take_more found i f below))

from_images : {X Y : Type 0} (P : Y → Type 0) (f : X → Y) (xs : List X) → All P (map f xs) → All (λ x. P (f x)) xs
from_images P f xs all k d below = subst P (get_or-map f xs k d (f d) below) (all k (f d) (let h = length-map xs f in omega arith))

-- what was found stands still where nothing was changed
pub standing_still : {A : Type 0} (bytes : A → List ℕ) (index : List ℕ) (found : List (ℕ × ℕ × A)) (judged : List Judged) (old new : GridState) → map found_of judged ≡ map (found_bytes bytes) found
    → All (λ (f : ℕ × ℕ × List ℕ). stood old f.0 (index, f.1) ≡ Some f.2) (map (found_bytes bytes) found) → IsUnchanged old new → All (IsStandingShare new index) judged
standing_still bytes index found judged old new same stands unchanged =
    from_images (λ (f : ℕ × ℕ × List ℕ). stood new f.0 (index, f.1) ≡ Some f.2) found_of judged
    (subst (All (λ (f : ℕ × ℕ × List ℕ). stood new f.0 (index, f.1) ≡ Some f.2)) (sym same)
    (λ k d below. ap (λ maps. standing maps (get_or (map (found_bytes bytes) found) k d).0 (index, (get_or (map (found_bytes bytes) found) k d).1)) unchanged.maps ∙ stands k d below))
