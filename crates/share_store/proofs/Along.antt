-- What stood in a store in memory along its changes.
use Rattle.std.proofs.Common.{◌≡◌, ◌+◌, ℕ, zero, suc, Bool, true, false, cond, List, [], ◌∷◌, ◌++◌, Contains, Option, Some, None, IsSome, is_some, refl, sym, ap, subst, ◌∙◌, arith, append-nil, append_assoc}
use Rattle.std.proofs.lemmas.List.{map-append}
use Rattle.std.proofs.lemmas.List.Elements.{Contains-append_right}
use Rattle.std.specs.Option.{option_map}
use Rattle.std.specs.Prelude.{take, slice_get, unwrap_or, Result, Ok, Err, IfOk}
use Rattle.std.specs.Cmp.{eq_by_cmp_equiv}
use Rattle.std.specs.FinMap.{empty, get, insert}
use Rattle.share_store.specs.Shares.{Shares, ShareKey}
use Rattle.share_store.specs.MapLaws.{key_cmp_total}
use Rattle.share_store.specs.Put.{put_once}
use Rattle.share_store.specs.History.{History, GoesOnBy}
use Rattle.share_store.specs.Shared.{IsShared, StoodAmid, IsSeenAmid}
use Rattle.share_store.specs.Changes.{ChangeMade, change_made, changes_made, with_change, left_by, stood_along}
use Rattle.share_store.specs.declared.shared_memory.ShareChange.{ShareChange}
use Rattle.share_store.proofs.Amid.{all_unit}
use Rattle.share_store.proofs.Puts.{get-put}

-- ---- along the changes

pub left_by-append : (m : Shares) (first then : List ChangeMade) → left_by (first ++ then) m ≡ left_by then (left_by first m)
left_by-append m [] then = refl
left_by-append m (x ∷ first) then = left_by-append (with_change x m) first then

-- what stood after the first changes ends what stood along them, and begins what stood along the others
along_both : (m : Shares) (first : List ChangeMade) → (before : List Shares) × ((then : List ChangeMade) → stood_along m (first ++ then) ≡ before ++ stood_along (left_by first m) then)
along_both m [] = ([], λ then. refl)
along_both m (x ∷ first) = let rest = along_both (with_change x m) first in (m ∷ rest.0, λ then. ap (λ (l : List Shares). m ∷ l) (rest.1 then))

along_since : (m : Shares) (changes : List ChangeMade) → (since : List Shares) × (stood_along m changes ≡ m ∷ since)
along_since m [] = ([], refl)
along_since m (x ∷ changes) = (stood_along (with_change x m) changes, refl)

along_last : (m : Shares) (changes : List ChangeMade) → Contains (stood_along m changes) (left_by changes m)
along_last m [] = (0, omega arith, refl)
along_last m (x ∷ changes) = Contains-append_right (m ∷ []) (stood_along (with_change x m) changes) (left_by changes (with_change x m)) (along_last (with_change x m) changes)

abbrev pub told_along : List ChangeMade → History
told_along changes = Some (stood_along empty changes)

along_ends : (changes : List ChangeMade) → (before : List Shares) × (stood_along empty changes ≡ before ++ left_by changes empty ∷ [])
along_ends changes = let both = along_both empty changes in (both.0, ap (stood_along empty) (sym (append-nil changes)) ∙ both.1 [])

-- it is shared
pub along_shared : (changes : List ChangeMade) → IsShared false (told_along changes)
along_shared changes = let ends = along_ends changes in record { not_honest = refl; before = ends.0; last = left_by changes empty; told = ap Some ends.1 }

-- what it told stays
pub along_goes : (old new more : List ChangeMade) → new ≡ old ++ more → GoesOnBy (λ _. Unit {0}) (told_along old) (told_along new)
along_goes old new more is before tells =
    let both = along_both empty old in
    let since = along_since (left_by old empty) more in
    let ends : stood_along empty old ≡ both.0 ++ left_by old empty ∷ [] = ap (stood_along empty) (sym (append-nil old)) ∙ both.1 [] in
    let was : stood_along empty old ≡ before = cc in (
      since.0,
      (
        ap Some (ap (stood_along empty) is ∙ both.1 more ∙ ap (λ (l : List Shares). both.0 ++ l) since.1 ∙ sym (append_assoc both.0 (left_by old empty ∷ []) since.0)
            ∙ ap (λ (l : List Shares). l ++ since.0) (sym ends ∙ was)),
        all_unit since.0,
      ),
    )

pub along_tells : (old new more : List ChangeMade) → new ≡ old ++ more → IsShared false (told_along new) × GoesOnBy (λ _. Unit {0}) (told_along old) (told_along new)
along_tells old new more is = (along_shared new, along_goes old new more is)

-- what stands after some changes more stood amid them
pub along_amid : (old new more : List ChangeMade) → new ≡ old ++ more → StoodAmid (told_along old) (told_along new) (left_by new empty)
along_amid old new more is =
    let both = along_both empty old in
    let since = along_since (left_by old empty) more in
    record {
      before = both.0;
      last = left_by old empty;
      since = since.0;
      was = ap Some (ap (stood_along empty) (sym (append-nil old)) ∙ both.1 []);
      is = ap Some (ap (stood_along empty) is ∙ both.1 more ∙ ap (λ (l : List Shares). both.0 ++ l) since.1);
      stood = subst (λ (l : List Shares). Contains l (left_by new empty)) since.1
          (subst (Contains (stood_along (left_by old empty) more)) (sym (ap (λ (l : List ChangeMade). left_by l empty) is ∙ left_by-append empty old more)) (along_last (left_by old empty) more));
    }

-- and each place of it is seen in them
pub along_seen : (old new more : List ChangeMade) → new ≡ old ++ more → IsSeenAmid (told_along old) (told_along new) (left_by new empty)
along_seen old new more is key = (left_by new empty, along_amid old new more is, refl)

-- ---- one change more

pub left_by-push : (m : Shares) (changes : List ChangeMade) (one : ChangeMade) → left_by (changes ++ one ∷ []) m ≡ with_change one (left_by changes m)
left_by-push m changes one = left_by-append m changes (one ∷ [])

-- where a share was put one stands
pub stands_put : (m : Shares) (key : ShareKey) (bytes : List ℕ) → IsSome (get (put_once m key bytes) key)
stands_put m key bytes = ap is_some (get-put m key bytes key ∙ ap (λ b. cond b (Some (unwrap_or (get m key) bytes)) (get m key)) ((eq_by_cmp_equiv key_cmp_total).refl key))

-- a put where one stands, or where none does
pub put_there : (m : Shares) (key : ShareKey) (bytes : List ℕ) → is_some (get m key) ≡ true → put_once m key bytes ≡ m
put_there m key bytes is = ap (λ b. cond b m (insert m key bytes)) is

pub put_anew : (m : Shares) (key : ShareKey) (bytes : List ℕ) → is_some (get m key) ≡ false → put_once m key bytes ≡ insert m key bytes
put_anew m key bytes is = ap (λ b. cond b m (insert m key bytes)) is

pub left_by-more : (past : List ShareChange) (one : ShareChange) → left_by (changes_made (past ++ one ∷ [])) empty ≡ with_change (change_made one) (left_by (changes_made past) empty)
left_by-more past one = ap (λ (l : List ChangeMade). left_by l empty) (map-append change_made past (one ∷ [])) ∙ left_by-push empty (changes_made past) (change_made one)

-- whether something stands, by what is kept of it
pub stands_by : {A B : Type 0} (f : A → B) (o : Option A) (r : Option B) (b c : Bool) → option_map f o ≡ r → b ≡ is_some o → b ≡ c → is_some r ≡ c
stands_by f None r b c kept is says = ap is_some (sym kept) ∙ sym is ∙ says
stands_by f (Some x) r b c kept is says = ap is_some (sym kept) ∙ sym is ∙ says

-- one change more of a batch
pub take_change : (batch : List ShareChange) (i : ℕ) (one : ShareChange) → slice_get batch i ≡ Some one → take (i + 1) (changes_made batch) ≡ take i (changes_made batch) ++ change_made one ∷ []
take_change [] i one at = cc
take_change (x ∷ batch) zero one at = let same : x ≡ one = cc in ap (λ (y : ShareChange). change_made y ∷ []) same
take_change (x ∷ batch) (suc i) one at =
    let e : suc i + 1 ≡ suc (i + 1) = omega arith in
    ap (λ n. take n (changes_made (x ∷ batch))) e ∙ ap (λ (l : List ChangeMade). change_made x ∷ l) (take_change batch i one at)

-- what is said of what was given, where it was
pub if_given : {A E : Type 0} (P Q : A → Type 0) (r : Result A E) → ((x : A) → P x → Q x) → IfOk r P → IfOk r Q
if_given P Q (Ok x) more h = more x h
if_given P Q (Err e) more h = h
