-- What calls see of a grid whose stores are honest, or changed by others too.
use Rattle.std.proofs.Common.{◌≡◌, ◌⊎◌, inl, inr, ◌<◌, ◌≤◌, ◌+◌, ℕ, zero, suc, Bool, false, IsTrue, List, [], ◌∷◌, ◌++◌, map, length, Option, Some, option_and_then, slice_get, slice_set, get_or, Result, OnOk, All, refl, sym, ap, subst, ◌∙◌, arith}
use Rattle.std.proofs.lemmas.List.Elements.{All-cons, All-nil, All-head, All-tail}
use Rattle.std.proofs.lemmas.Option.{get_or_from_slice_get, slice_get-get_or, slice_get_within, same_Some, none-some}
use Rattle.std.proofs.lemmas.Result.{on_ok_weaker}
use Rattle.std.proofs.Math.Numerals.{suc-eq-add-one}
use Rattle.std.specs.FinMap.{get, entries}
use Rattle.std.specs.Option.{option_map_or}
use Rattle.share_store.specs.Shares.{Shares, ShareKey, ShareEntry}
use Rattle.share_store.specs.Shared.{IsShared, StoodAmid, SeesAmid, TellsOn}
use Rattle.share_store.specs.NumberedShares.{AllBut, below_limit}
use Rattle.share_store.specs.Looked.{Looked}
use Rattle.share_store.specs.declared.store.Store.{Ghosts}
use Rattle.share_store.proofs.Amid.{tells_on_both, tells_on_same, seen_whole, seen_first}
use Rattle.share_store.proofs.Missing.{more_may_miss, all_but_both, given_too}
use Rattle.share_store.proofs.Within.{within_none, within_append, all_within}
use Rattle.grid.specs.Standing.{standing}
use Rattle.grid.specs.GridState.{StoreState, GridState, maps_of, failures_at, IsHonest}
use Rattle.grid.specs.Leaves.{Leaves}
use Rattle.grid.specs.Found.{entries_at, found_in, found_below}
use Rattle.grid.specs.Views.{AllTell, IsViewOf, AreViews, Sees, EachStore, TellsStill, TellOn, StandsStill, StandStill}
use Rattle.grid.proofs.Calls.{IsCall, seen_as, rose_after}
use Rattle.grid.proofs.Gather.{all_stand}

-- ---- numbers: apart, since a tactic reads all that is in scope, and stores with their shares are long

none_below : (n : ℕ) → n < 0 → ⊥
none_below n lt = absurd (omega arith)

below_both : (m n : ℕ) → suc m < suc n → m < n
below_both m n lt = omega arith

same_both : (m n : ℕ) → suc m ≡ suc n → m ≡ n
same_both m n same = omega arith

some_none : (n : ℕ) → suc n ≡ 0 → ⊥
some_none n same = absurd (omega arith)

below_suc : (r n : ℕ) → r < n → r < suc n
below_suc r n lt = omega arith

just_below : (n : ℕ) → n < suc n
just_below n = omega arith

-- a count that rose in one of two calls rose in both together
rose_before : (a b c : ℕ) → a < b → b ≤ c → a < c
rose_before a b c rose rises = omega arith

rose_behind : (a b c : ℕ) → a ≤ b → b < c → a < c
rose_behind a b c rises rose = omega arith

-- ---- server by server

-- a store is honest, or one that others change
abbrev pub Tells : StoreState → Type 0
Tells t = IsTrue t.honest ⊎ IsShared t.honest t.history

-- a store that others change isn't honest
pub not_both : {b : Bool} → IsTrue b → b ≡ false → ⊥
not_both honest shared = cc

each_same : (Went : StoreState → StoreState → Type 0) (ts : List StoreState) → ((t : StoreState) → Went t t) → EachStore Went ts ts
each_same Went [] same = tt
each_same Went (t ∷ ts) same = (same t, each_same Went ts same)

each_both : (Went : StoreState → StoreState → Type 0) (ts us ws : List StoreState) → ((t u w : StoreState) → Went t u → Went u w → Went t w) → EachStore Went ts us → EachStore Went us ws → EachStore Went ts ws
each_both Went [] [] [] both a b = tt
each_both Went (t ∷ ts) (u ∷ us) (w ∷ ws) both a b = (both t u w a.0 b.0, each_both Went ts us ws both a.1 b.1)
each_both Went [] (u ∷ us) ws both a b = absurd a
each_both Went (t ∷ ts) [] ws both a b = absurd a
each_both Went [] [] (w ∷ ws) both a b = absurd b
each_both Went (t ∷ ts) (u ∷ us) [] both a b = absurd b

-- one store went from one state to another, and the others stayed
pub each_set : (Went : StoreState → StoreState → Type 0) (ts : List StoreState) (s : ℕ) (t u : StoreState) → ((x : StoreState) → Went x x) → slice_get ts s ≡ Some t → Went t u → EachStore Went ts (slice_set ts s u)
each_set Went [] s t u same at went = cc
each_set Went (x ∷ ts) zero t u same at went = (subst (λ (y : StoreState). Went y u) (sym (same_Some x t at)) went, each_same Went ts same)
each_set Went (x ∷ ts) (suc s) t u same at went = (same x, each_set Went ts s t u same at went)

-- what is said of each store is said of this one: `told.each` and `stand_still` of one server
pub each_at : (Went : StoreState → StoreState → Type 0) (ts us : List StoreState) (s : ℕ) (t u : StoreState) → slice_get ts s ≡ Some t → slice_get us s ≡ Some u → EachStore Went ts us → Went t u
each_at Went [] us s t u was is each = cc
each_at Went (x ∷ ts) [] s t u was is each = cc
each_at Went (x ∷ ts) (y ∷ us) zero t u was is each =
    subst (Went t) (same_Some y u is) (subst (λ (z : StoreState). Went z y) (same_Some x t was) each.0)
each_at Went (x ∷ ts) (y ∷ us) (suc s) t u was is each = each_at Went ts us s t u was is each.1

-- and the state that it went to is there
pub each_after : (Went : StoreState → StoreState → Type 0) (ts us : List StoreState) (s : ℕ) (t : StoreState) → slice_get ts s ≡ Some t → EachStore Went ts us → (u : StoreState) × (slice_get us s ≡ Some u) × Went t u
each_after Went [] us s t was each = cc
each_after Went (x ∷ ts) [] s t was each = absurd each
each_after Went (x ∷ ts) (y ∷ us) zero t was each = (y, refl, subst (λ (z : StoreState). Went z y) (same_Some x t was) each.0)
each_after Went (x ∷ ts) (y ∷ us) (suc s) t was each = each_after Went ts us s t was each.1

-- as is the state that it came from
pub each_before : (Went : StoreState → StoreState → Type 0) (ts us : List StoreState) (s : ℕ) (u : StoreState) → slice_get us s ≡ Some u → EachStore Went ts us → (t : StoreState) × (slice_get ts s ≡ Some t) × Went t u
each_before Went ts [] s u is each = cc
each_before Went [] (y ∷ us) s u is each = absurd each
each_before Went (x ∷ ts) (y ∷ us) zero u is each = (x, refl, subst (Went x) (same_Some y u is) each.0)
each_before Went (x ∷ ts) (y ∷ us) (suc s) u is each = each_before Went ts us s u is each.1

-- ---- what stays

tells_same : (t : StoreState) → TellsStill t t
tells_same t = record { honest = λ honest. honest; shared = tells_on_same (λ (x : StoreState). x.honest) (λ (x : StoreState). x.history) t t refl }

tells_both : (t u w : StoreState) → TellsStill t u → TellsStill u w → TellsStill t w
tells_both t u w a b = record {
  honest = λ honest. b.honest (a.honest honest);
  shared = tells_on_both (λ (x : StoreState). x.honest) (λ (x : StoreState). x.history) t u w a.shared b.shared;
}

all_tell : (ts us : List StoreState) → EachStore TellsStill ts us → All Tells ts → All Tells us
all_tell [] [] each all = All-nil Tells
all_tell (t ∷ ts) (u ∷ us) each all =
    All-cons Tells u us
    (elim (All-head Tells t ts all) [ inl honest ↦ inl (each.0.honest honest) | inr shared ↦ inr (each.0.shared shared).0 ])
    (all_tell ts us each.1 (All-tail Tells t ts all))
all_tell [] (u ∷ us) each all = absurd each
all_tell (t ∷ ts) [] each all = absurd each

tell_on : {old new : GridState} → EachStore TellsStill old.stores new.stores → TellOn old new
tell_on {old} {new} each = record { all = all_tell old.stores new.stores each; each = each }

pub tell_on_none : (g : GridState) → TellOn g g
tell_on_none g = tell_on (each_same TellsStill g.stores tells_same)

pub tell_on_both : (old mid new : GridState) → TellOn old mid → TellOn mid new → TellOn old new
tell_on_both old mid new a b = tell_on (each_both TellsStill old.stores mid.stores new.stores tells_both a.each b.each)

-- a call before which a stamp was raised
pub tell_on_raised : (old mid new : GridState) → mid.stores ≡ old.stores → TellOn mid new → TellOn old new
tell_on_raised old mid new is told = tell_on (subst (λ (ts : List StoreState). EachStore TellsStill ts new.stores) is told.each)

pub still_none : (g : GridState) → StandStill g g
still_none g = each_same StandsStill g.stores (λ t honest. (honest, refl))

pub still_both : (old mid new : GridState) → StandStill old mid → StandStill mid new → StandStill old new
still_both old mid new a b = each_both StandsStill old.stores mid.stores new.stores
    (λ t u w first then honest. (let f = first honest in let g = then f.0 in (g.0, g.1 ∙ f.1))) a b

-- ---- views

lengths : (ts us : List StoreState) (views : List Shares) → AreViews ts us views → length views ≡ length ts
lengths [] [] [] are = refl
lengths (t ∷ ts) (u ∷ us) (view ∷ views) are = ap suc (lengths ts us views are.1)
lengths [] [] (view ∷ views) are = absurd are
lengths [] (u ∷ us) [] are = absurd are
lengths [] (u ∷ us) (view ∷ views) are = absurd are
lengths (t ∷ ts) [] [] are = absurd are
lengths (t ∷ ts) [] (view ∷ views) are = absurd are
lengths (t ∷ ts) (u ∷ us) [] are = absurd are

-- there is a view of each call
views_of : (ts us : List StoreState) → All Tells ts → EachStore TellsStill ts us → (views : List Shares) × AreViews ts us views
views_of [] [] all each = ([], tt)
views_of (t ∷ ts) (u ∷ us) all each =
    let here = view_of (All-head Tells t ts all) in
    let more = views_of ts us (All-tail Tells t ts all) each.1 in
    (here.0 ∷ more.0, (here.1, more.1))
  where
    view_of : Tells t → (view : Shares) × IsViewOf t u view
    view_of (inl honest) = (t.shares, record { honest = λ _. refl; shared = λ shared. absurd (not_both honest shared.not_honest) })
    view_of (inr shared) = (shared.last, record { honest = λ honest. absurd (not_both honest shared.not_honest); shared = λ _. seen_first shared (each.0.shared shared).1 })
views_of [] (u ∷ us) all each = absurd each
views_of (t ∷ ts) [] all each = absurd each

-- another view of one server
views_with : (ts us : List StoreState) (views : List Shares) (s : ℕ) (t u : StoreState) (view : Shares) → slice_get ts s ≡ Some t → slice_get us s ≡ Some u → IsViewOf t u view → AreViews ts us views → AreViews ts us (slice_set views s view)
views_with [] [] [] s t u view was is one are = are
views_with (x ∷ ts) (y ∷ us) (v ∷ views) zero t u view was is one are =
    (subst (λ (z : StoreState). IsViewOf z y view) (sym (same_Some x t was)) (subst (λ (z : StoreState). IsViewOf t z view) (sym (same_Some y u is)) one), are.1)
views_with (x ∷ ts) (y ∷ us) (v ∷ views) (suc s) t u view was is one are = (are.0, views_with ts us views s t u view was is one are.1)
views_with [] [] (v ∷ views) s t u view was is one are = absurd are
views_with [] (y ∷ us) [] s t u view was is one are = absurd are
views_with [] (y ∷ us) (v ∷ views) s t u view was is one are = absurd are
views_with (x ∷ ts) [] [] s t u view was is one are = absurd are
views_with (x ∷ ts) [] (v ∷ views) s t u view was is one are = absurd are
views_with (x ∷ ts) (y ∷ us) [] s t u view was is one are = absurd are

-- what is seen in a part of a call is seen in the whole
view_whole : (t u w x : StoreState) (view : Shares) → TellsStill t u → StandsStill t u → TellsStill w x → TellsStill u w → IsViewOf u w view → IsViewOf t x view
view_whole t u w x view told still late amid one = record {
  honest = λ honest. (let same = still honest in one.honest same.0 ∙ same.1);
  shared = λ shared.
      let first = told.shared shared in
      let then = amid.shared first.0 in
      seen_whole view shared first.1 (one.shared first.0) (late.shared then.0).1;
}

-- the first n of some views, and the others of others
joined : ℕ → List Shares → List Shares → List Shares
joined (suc n) (view ∷ views) (other ∷ others) = view ∷ joined n views others
joined n views others = others

-- what is seen in one call and the next is seen in both: of the first n servers in the first, of the others in the second
views_joined : (ts us ws : List StoreState) (n : ℕ) (views others : List Shares) → EachStore TellsStill ts us → EachStore StandsStill ts us → EachStore TellsStill us ws → AreViews ts us views → AreViews us ws others
    → AreViews ts ws (joined n views others)
unfolding joined
views_joined [] [] [] n [] [] told still then first second = joined_none n
  where
    joined_none : (n : ℕ) → AreViews [] [] (joined n [] [])
    joined_none zero = tt
    joined_none (suc n) = tt
views_joined (t ∷ ts) (u ∷ us) (w ∷ ws) zero (view ∷ views) (other ∷ others) told still then first second =
    (view_whole t u w w other told.0 still.0 (tells_same w) then.0 second.0, views_joined ts us ws zero views others told.1 still.1 then.1 first.1 second.1)
views_joined (t ∷ ts) (u ∷ us) (w ∷ ws) (suc n) (view ∷ views) (other ∷ others) told still then first second =
    (view_whole t t u w view (tells_same t) (λ honest. (honest, refl)) then.0 told.0 first.0, views_joined ts us ws n views others told.1 still.1 then.1 first.1 second.1)
views_joined [] (u ∷ us) ws n views others told still then first second = absurd told
views_joined (t ∷ ts) [] ws n views others told still then first second = absurd told
views_joined [] [] (w ∷ ws) n views others told still then first second = absurd then
views_joined (t ∷ ts) (u ∷ us) [] n views others told still then first second = absurd then
views_joined [] [] [] n (view ∷ views) others told still then first second = absurd first
views_joined [] [] [] n [] (other ∷ others) told still then first second = absurd second
views_joined (t ∷ ts) (u ∷ us) (w ∷ ws) n [] others told still then first second = absurd first
views_joined (t ∷ ts) (u ∷ us) (w ∷ ws) n (view ∷ views) [] told still then first second = absurd second

joined_before : (n : ℕ) (views others : List Shares) (r : ℕ) → length others ≡ length views → r < n → slice_get (joined n views others) r ≡ slice_get views r
unfolding joined
joined_before zero views others r long lt = absurd (none_below r lt)
joined_before (suc n) [] [] r long lt = refl
joined_before (suc n) (view ∷ views) (other ∷ others) zero long lt = refl
joined_before (suc n) (view ∷ views) (other ∷ others) (suc r) long lt = joined_before n views others r (same_both (length others) (length views) long) (below_both r n lt)
joined_before (suc n) [] (other ∷ others) r long lt = absurd (some_none (length others) long)
joined_before (suc n) (view ∷ views) [] r long lt = absurd (some_none (length views) (sym long))

joined_here : (n : ℕ) (views others : List Shares) → slice_get (joined n views others) n ≡ slice_get others n
unfolding joined
joined_here zero views others = refl
joined_here (suc n) (view ∷ views) (other ∷ others) = joined_here n views others
joined_here (suc n) [] [] = refl
joined_here (suc n) [] (other ∷ others) = refl
joined_here (suc n) (view ∷ views) [] = refl

found_same : (xs ys : List Shares) (index : List ℕ) (n : ℕ) → ((r : ℕ) → r < n → slice_get xs r ≡ slice_get ys r) → found_below xs index n ≡ found_below ys index n
found_same xs ys index zero same = refl
found_same xs ys index (suc n) same =
    let before = found_same xs ys index n (λ r lt. same r (below_suc r n lt)) in
    let here : entries_at xs n ≡ entries_at ys n = ap (λ (o : Option Shares). option_map_or entries o []) (same n (just_below n)) in
    λ i. before i ++ found_in n index (here i)

-- ---- a call of one server's store

pub set_there : (ts : List StoreState) (s : ℕ) (t u : StoreState) → slice_get ts s ≡ Some t → slice_get (slice_set ts s u) s ≡ Some u
set_there [] s t u at = cc
set_there (x ∷ ts) zero t u at = refl
set_there (x ∷ ts) (suc s) t u at = set_there ts s t u at

set_view : (views : List Shares) (s : ℕ) (view : Shares) → s < length views → slice_get (slice_set views s view) s ≡ Some view
set_view [] s view lt = absurd (none_below s lt)
set_view (v ∷ views) zero view lt = refl
set_view (v ∷ views) (suc s) view lt = set_view views s view (below_both s (length views) lt)

module _ {old new : GridState} {s : ℕ} {t u : StoreState} (call : IsCall old new s t u) where
  pub tell_on_by : TellsStill t u → TellOn old new
  tell_on_by told = subst (TellOn old) (sym call.is) (tell_on (each_set TellsStill old.stores s t u tells_same call.at told))

  pub still_by : StandsStill t u → StandStill old new
  still_by still = subst (StandStill old) (sym call.is) (each_set StandsStill old.stores s t u (λ x honest. (honest, refl)) call.at still)

  pub tells_there : AllTell old → Tells t
  tells_there all = subst Tells (get_or_from_slice_get old.stores s t t call.at) (all s t call.in_range)

  -- what a call sees of its store, it sees of the grid
  pub sees_by : AllTell old → TellOn old new → (view : Shares) → IsViewOf t u view → (Says : List ShareEntry → Type 0) → Says (entries view) → Sees old new (λ views. Says (entries_at views s))
  sees_by all told view one Says says =
      let any = views_of old.stores new.stores all told.each in
      let is : slice_get new.stores s ≡ Some u = ap (λ (g : GridState). slice_get g.stores s) call.is ∙ set_there old.stores s t u call.at in
      let within : s < length any.0 = subst (λ (n : ℕ). s < n) (sym (lengths old.stores new.stores any.0 any.1)) call.in_range in (
        slice_set any.0 s view,
        views_with old.stores new.stores any.0 s t u view call.at is one any.1,
        subst Says (sym (ap (λ (o : Option Shares). option_map_or entries o []) (set_view any.0 s view within))) says,
      )

module _ {S : Type 0} (store : Ghosts S) {old new : GridState} {s : ℕ} {before after : S} (call : IsCall old new s (seen_as store before) (seen_as store after)) where
  pub tell_on_called : (IsTrue (store.honest before) → IsTrue (store.honest after)) → TellsOn store.honest store.history before after → TellOn old new
  tell_on_called honest told = tell_on_by call (record { honest = honest; shared = told })

  pub still_looked : Looked store.honest store.shares store.room store.failures before after → StandStill old new
  still_looked looked = still_by call (λ honest. (looked.still_honest honest, looked.same_shares honest))

-- ---- the servers one after the other

abbrev Found : Type 0
Found = ℕ × ℕ × List ℕ

abbrev number : Found → ℕ
number f = f.1

-- of what is seen at the first servers, within a limit, these were given
abbrev pub SeesBelow : List ℕ → Option ℕ → GridState → GridState → ℕ → List Found → Type 0
SeesBelow index limit old new n given = Sees old new (λ views. AllBut (λ f. failures_at old f.0 < failures_at new f.0) (below_limit number limit (found_below views index n)) given)

-- of what is seen at one server, within a limit, these were given
abbrev pub SeesAt : List ℕ → Option ℕ → GridState → GridState → ℕ → List Found → Type 0
SeesAt index limit old new s given = Sees old new (λ views. AllBut (λ f. failures_at old f.0 < failures_at new f.0) (below_limit number limit (found_in s index (entries_at views s))) given)

-- what was given of a store's shares, each with its server's number, but where the store failed in the call
abbrev GivenOf : ℕ → List ℕ → Option ℕ → Type 0 → List Found → Shares → Type 0
GivenOf s index limit failed given shares = AllBut (λ f. (f.0 ≡ s) × failed) (below_limit number limit (found_in s index (entries shares))) given

-- what was seen of the store of one server, be it honest or not, was seen there
pub seen_at : {S A E : Type 0} (store : Ghosts S) {old new : GridState} {s : ℕ} {before after : S} (call : IsCall old new s (seen_as store before) (seen_as store after)) (index : List ℕ) (limit : Option ℕ) → AllTell old → TellOn old new
    → (result : Result A E) (Is : List Found → Type 0)
    → (IsTrue (store.honest before) → OnOk result ((given : List Found) × Is given × GivenOf s index limit (store.failures before < store.failures after) given (store.shares before)))
    → (IsShared (store.honest before) (store.history before) → OnOk result ((given : List Found) × Is given × SeesAmid (store.history before) (store.history after) (GivenOf s index limit (store.failures before < store.failures after) given)))
    → OnOk result ((given : List Found) × Is given × SeesAt index limit old new s given)
seen_at store {old} {new} {s} {before} {after} call index limit all told result Is found seen = elim (tells_there call all) [
  | inl honest ↦ on_ok_weaker result
      (λ w. (w.0, w.1, of_view w.0 (store.shares before) (record { honest = λ _. refl; shared = λ shared. absurd (not_both honest shared.not_honest) }) w.2))
      (found honest)
  | inr shared ↦ on_ok_weaker result
      (λ w. (w.0, w.1, of_view w.0 w.2.0 (record { honest = λ honest. absurd (not_both honest shared.not_honest); shared = λ _. w.2.1 }) w.2.2))
      (seen shared)
]
  where
    of_view : (given : List Found) (view : Shares) → IsViewOf (seen_as store before) (seen_as store after) view → GivenOf s index limit (store.failures before < store.failures after) given view → SeesAt index limit old new s given
    of_view given view one is =
        sees_by call all told view one (λ es. AllBut (λ f. failures_at old f.0 < failures_at new f.0) (below_limit number limit (found_in s index es)) given)
        (more_may_miss (λ f. (f.0 ≡ s) × (store.failures before < store.failures after)) (λ f. failures_at old f.0 < failures_at new f.0) (below_limit number limit (found_in s index (entries view))) given (λ f rose. rose_after call f.0 rose.0 rose.1) is)

pub seen_none : (index : List ℕ) (limit : Option ℕ) (old new : GridState) → AllTell old → TellOn old new → SeesBelow index limit old new 0 []
seen_none index limit old new all told =
    let any = views_of old.stores new.stores all told.each in
    let Q : Found → Type 0 = λ f. failures_at old f.0 < failures_at new f.0 in
    (any.0, any.1, subst (λ (low : List Found). AllBut Q low []) (sym (within_none number limit)) refl)

pub seen_next : (index : List ℕ) (limit : Option ℕ) (old mid new : GridState) (n : ℕ) (given more : List Found) → Leaves old mid → Leaves mid new → TellOn old mid → StandStill old mid → TellOn mid new
    → SeesBelow index limit old mid n given → SeesAt index limit mid new n more → SeesBelow index limit old new (n + 1) (given ++ more)
seen_next index limit old mid new n given more left then told still tells first second =
    let P : Found → Type 0 = λ f. failures_at old f.0 < failures_at mid f.0 in
    let M : Found → Type 0 = λ f. failures_at mid f.0 < failures_at new f.0 in
    let Q : Found → Type 0 = λ f. failures_at old f.0 < failures_at new f.0 in
    let views : List Shares = joined n first.0 second.0 in
    let long : length second.0 ≡ length first.0 = lengths mid.stores new.stores second.0 second.1 ∙ left.servers ∙ sym (lengths old.stores mid.stores first.0 first.1) in
    let before : found_below views index n ≡ found_below first.0 index n = found_same views first.0 index n (λ r lt. joined_before n first.0 second.0 r long lt) in
    let here : entries_at views n ≡ entries_at second.0 n = ap (λ (o : Option Shares). option_map_or entries o []) (joined_here n first.0 second.0) in
    let low_before = below_limit number limit (found_below first.0 index n) in
    let low_here = below_limit number limit (found_in n index (entries_at second.0 n)) in
    let low : below_limit number limit (found_below views index (suc n)) ≡ low_before ++ low_here =
    within_append number limit (found_below views index n) (found_in n index (entries_at views n))
    ∙ (λ i. below_limit number limit (before i) ++ below_limit number limit (found_in n index (here i))) in
    let next : suc n ≡ n + 1 = suc-eq-add-one n in (
      views,
      views_joined old.stores mid.stores new.stores n first.0 second.0 told.each still tells.each first.1 second.1,
      subst (λ k. AllBut Q (below_limit number limit (found_below views index k)) (given ++ more)) next
          (subst (λ l. AllBut Q l (given ++ more)) (sym low)
          (all_but_both Q low_before low_here given more
          (more_may_miss P Q low_before given (λ f lt. rose_before (failures_at old f.0) (failures_at mid f.0) (failures_at new f.0) lt (then.rises f.0)) first.2)
          (more_may_miss M Q low_here more (λ f lt. rose_behind (failures_at old f.0) (failures_at mid f.0) (failures_at new f.0) (left.rises f.0) lt) second.2))),
    )

-- ---- for the layers above

pub honest_tell : (grid : GridState) → IsHonest grid → AllTell grid
honest_tell grid all i d lt = inl (all i d lt)

views_honest : (ts us : List StoreState) (views : List Shares) → All (λ t. IsTrue t.honest) ts → AreViews ts us views → views ≡ map (λ t. t.shares) ts
views_honest [] [] [] all are = refl
views_honest (t ∷ ts) (u ∷ us) (view ∷ views) all are =
    let here = are.0.honest (All-head (λ (x : StoreState). IsTrue x.honest) t ts all) in
    let more = views_honest ts us views (All-tail (λ (x : StoreState). IsTrue x.honest) t ts all) are.1 in
    λ i. here i ∷ more i
views_honest [] [] (view ∷ views) all are = absurd are
views_honest [] (u ∷ us) [] all are = absurd are
views_honest [] (u ∷ us) (view ∷ views) all are = absurd are
views_honest (t ∷ ts) [] [] all are = absurd are
views_honest (t ∷ ts) [] (view ∷ views) all are = absurd are
views_honest (t ∷ ts) (u ∷ us) [] all are = absurd are

-- of honest stores what stands there is seen
pub sees_honest : (old new : GridState) (Says : List Shares → Type 0) → IsHonest old → Sees old new Says → Says (maps_of old)
sees_honest old new Says all sees = subst Says (views_honest old.stores new.stores sees.0 all sees.1) sees.2

-- what is seen in a part of a call, before which calls looked, is seen in the whole
views_whole : (ts us ws xs : List StoreState) (views : List Shares) → EachStore TellsStill ts us → EachStore StandsStill ts us → EachStore TellsStill us ws → EachStore TellsStill ws xs → AreViews us ws views → AreViews ts xs views
views_whole [] [] [] [] [] told still amid late are = tt
views_whole (t ∷ ts) (u ∷ us) (w ∷ ws) (x ∷ xs) (view ∷ views) told still amid late are =
    (view_whole t u w x view told.0 still.0 late.0 amid.0 are.0, views_whole ts us ws xs views told.1 still.1 amid.1 late.1 are.1)
views_whole [] (u ∷ us) ws xs views told still amid late are = absurd told
views_whole (t ∷ ts) [] ws xs views told still amid late are = absurd told
views_whole [] [] (w ∷ ws) xs views told still amid late are = absurd amid
views_whole (t ∷ ts) (u ∷ us) [] xs views told still amid late are = absurd amid
views_whole [] [] [] (x ∷ xs) views told still amid late are = absurd late
views_whole (t ∷ ts) (u ∷ us) (w ∷ ws) [] views told still amid late are = absurd late
views_whole [] [] [] [] (view ∷ views) told still amid late are = absurd are
views_whole (t ∷ ts) (u ∷ us) (w ∷ ws) (x ∷ xs) [] told still amid late are = absurd are

pub sees_whole : (old mid late new : GridState) (Says : List Shares → Type 0) → TellOn old mid → StandStill old mid → TellOn mid late → TellOn late new → Sees mid late Says → Sees old new Says
sees_whole old mid late new Says told still amid then sees = (sees.0, views_whole old.stores mid.stores late.stores new.stores sees.0 told.each still amid.each then.each sees.1, sees.2)

-- what was given of it stands in the views
pub given_seen : (index : List ℕ) (limit : Option ℕ) (views : List Shares) (n : ℕ) (P : Found → Type 0) (given : List Found) → AllBut P (below_limit number limit (found_below views index n)) given → All (λ f. standing views f.0 (index, f.1) ≡ Some f.2) given
given_seen index limit views n P given =
    given_too P (λ f. standing views f.0 (index, f.1) ≡ Some f.2) (below_limit number limit (found_below views index n)) given
    (all_within (λ f. standing views f.0 (index, f.1) ≡ Some f.2) number limit (found_below views index n) (all_stand views index n))

-- the view of one server
view_at : (ts us : List StoreState) (views : List Shares) (s : ℕ) (t u : StoreState) (view : Shares) → slice_get ts s ≡ Some t → slice_get us s ≡ Some u → slice_get views s ≡ Some view → AreViews ts us views → IsViewOf t u view
view_at [] us views s t u view was is at are = absurd (none-some t was)
view_at (x ∷ ts) (y ∷ us) (v ∷ views) zero t u view was is at are =
    subst (IsViewOf t u) (same_Some v view at) (subst (λ (z : StoreState). IsViewOf z u v) (same_Some x t was) (subst (λ (z : StoreState). IsViewOf x z v) (same_Some y u is) are.0))
view_at (x ∷ ts) (y ∷ us) (v ∷ views) (suc s) t u view was is at are = view_at ts us views s t u view was is at are.1
view_at (x ∷ ts) [] views s t u view was is at are = absurd (none-some u is)
view_at (x ∷ ts) (y ∷ us) [] s t u view was is at are = absurd (none-some view at)

-- there is one of each server
a_view : (ts us : List StoreState) (views : List Shares) (s : ℕ) (t : StoreState) → slice_get ts s ≡ Some t → AreViews ts us views → slice_get views s ≡ Some (get_or views s t.shares)
a_view ts us views s t was are = slice_get-get_or views s t.shares (subst (λ (n : ℕ). s < n) (sym (lengths ts us views are)) (slice_get_within ts s t was))

module _ (old new : GridState) (views : List Shares) (s : ℕ) (t u : StoreState) (was : slice_get old.stores s ≡ Some t) (is : slice_get new.stores s ≡ Some u) (are : AreViews old.stores new.stores views) where
  abbrev there : Shares
  there = get_or views s t.shares

  there_at : (key : ShareKey) → standing views s key ≡ get there key
  there_at key = ap (option_and_then (λ (m : Shares). get m key)) (a_view old.stores new.stores views s t was are)

  there_is : IsViewOf t u there
  there_is = view_at old.stores new.stores views s t u there was is (a_view old.stores new.stores views s t was are) are

  -- what is seen at a place of an honest store stands there
  pub seen_honest : IsTrue t.honest → (key : ShareKey) → standing views s key ≡ get t.shares key
  seen_honest honest key = there_at key ∙ ap (λ (m : Shares). get m key) (there_is.honest honest)

  -- and at a place of one that others change it stood at some moment of the call
  pub seen_shared : IsShared t.honest t.history → (key : ShareKey) → (c : Shares) × StoodAmid t.history u.history c × (standing views s key ≡ get c key)
  seen_shared shared key = let sight = there_is.shared shared key in (sight.0, sight.1, there_at key ∙ sight.2)
