-- That a share stood at a place at some moment of a call.
use Rattle.std.proofs.Common.{◌≡◌, ◌⊎◌, inl, inr, ◌<◌, ◌+◌, ℕ, zero, suc, Bool, true, false, cond, IsTrue, List, [], ◌∷◌, Some, IsSome, slice_get, unwrap_or, Result, Ok, Err, OnOk, OnErr, refl, sym, ap, subst, ◌∙◌, arith}
use Rattle.std.specs.FinMap.{get}
use Rattle.std.specs.Ordering.{eq_by_cmp}
use Rattle.share_store.specs.Shares.{Shares, ShareKey, key_cmp}
use Rattle.share_store.specs.Put.{put_once}
use Rattle.share_store.specs.Shared.{IsShared, StoodAmid}
use Rattle.share_store.specs.declared.store.Store.{Ghosts}
use Rattle.share_store.specs.declared.fault.StoreFault.{StoreFault}
use Rattle.share_store.proofs.Along.{stands_put}
use Rattle.share_store.proofs.Amid.{goes_on_same, amid_whole}
use Rattle.grid.specs.declared.fault.GridFault.{GridFault}
use Rattle.grid.specs.StoreAnswers.{answer_of}
use Rattle.grid.specs.GridState.{StoreState, GridState}
use Rattle.grid.specs.Views.{AllTell, EachStore, TellsStill, TellOn, StandsStill, StandStill, KeepsShares, SomeStood}
use Rattle.grid.proofs.Standing.{get-put_once}
use Rattle.grid.proofs.Calls.{IsCall, seen_as, ok_told}
use Rattle.grid.proofs.Views.{each_set, each_at, each_after, each_before, not_both, set_there, tells_there}

-- ---- what an honest store keeps

kept_same : (t : StoreState) → KeepsShares t t
kept_same t honest = (honest, λ key some. some)

-- a put takes no share away
kept_put : (m : Shares) (key : ShareKey) (bytes : List ℕ) (q : ShareKey) → IsSome (get m q) → IsSome (get (put_once m key bytes) q)
kept_put m key bytes q some = subst IsSome (sym (get-put_once m key bytes q)) (by_case (eq_by_cmp key_cmp q key) some)
  where
    by_case : (b : Bool) → IsSome (get m q) → IsSome (cond b (Some (unwrap_or (get m q) bytes)) (get m q))
    by_case true some = refl
    by_case false some = some

-- nor does one that was refused
pub kept_either : {A E : Type 0} (result : Result A E) (old new : Shares) (key : ShareKey) (bytes : List ℕ) → OnOk result (new ≡ put_once old key bytes) → OnErr result (new ≡ old) → (q : ShareKey) → IsSome (get old q) → IsSome (get new q)
kept_either (Ok x) old new key bytes put same q some = subst (λ (m : Shares). IsSome (get m q)) (sym put) (kept_put old key bytes q some)
kept_either (Err e) old new key bytes put same q some = subst (λ (m : Shares). IsSome (get m q)) (sym same) some

-- ---- a part of a call

-- what stood at some moment of a call stood at some moment of it and the next, in which no honest store loses a share
pub stood_both : (old mid new : GridState) (server : ℕ) (key : ShareKey) → TellOn old mid → TellOn mid new → EachStore KeepsShares mid.stores new.stores → SomeStood old mid server key → SomeStood old new server key
stood_both old mid new server key told then kept some =
    let first = each_at TellsStill old.stores mid.stores server some.before some.after some.was some.is told.each in
    let next = each_after TellsStill mid.stores new.stores server some.after some.is then.each in
    let keeps = each_at KeepsShares mid.stores new.stores server some.after next.0 some.is next.1 kept in
    record {
      before = some.before;
      after = next.0;
      was = some.was;
      is = next.1;
      honest = λ honest. (keeps (first.honest honest)).1 key (some.honest honest);
      shared = λ shared.
          let at = some.shared shared in
          (at.0, amid_whole shared (goes_on_same some.before.history some.before.history refl) at.1 (next.2.shared (first.shared shared).0).1, at.2);
    }

-- and so does what stood at some moment of the last part
pub stood_later : (old mid new : GridState) (server : ℕ) (key : ShareKey) → TellOn old mid → SomeStood mid new server key → SomeStood old new server key
stood_later old mid new server key told some =
    let first = each_before TellsStill old.stores mid.stores server some.before some.was told.each in
    record {
      before = first.0;
      after = some.after;
      was = first.1;
      is = some.is;
      honest = λ honest. some.honest (first.2.honest honest);
      shared = λ shared.
          let goes = first.2.shared shared in
          let at = some.shared goes.0 in
          (at.0, amid_whole shared goes.1 at.1 (goes_on_same some.after.history some.after.history refl), at.2);
    }

-- a call before which a stamp was raised
pub stood_raised : (old mid new : GridState) (server : ℕ) (key : ShareKey) → mid.stores ≡ old.stores → SomeStood mid new server key → SomeStood old new server key
stood_raised old mid new server key same some = record {
  before = some.before;
  after = some.after;
  was = ap (λ (ts : List StoreState). slice_get ts server) (sym same) ∙ some.was;
  is = some.is;
  honest = some.honest;
  shared = some.shared;
}

-- a call that looks takes no share away
kept_each : (ts us : List StoreState) → EachStore StandsStill ts us → EachStore KeepsShares ts us
kept_each [] [] still = tt
kept_each (t ∷ ts) (u ∷ us) still = (λ honest. (let here = still.0 honest in (here.0, λ key some. subst (λ (m : Shares). IsSome (get m key)) (sym here.1) some)), kept_each ts us still.1)
kept_each [] (u ∷ us) still = absurd still
kept_each (t ∷ ts) [] still = absurd still

pub stood_looked : (old mid new : GridState) (server : ℕ) (key : ShareKey) → TellOn old mid → TellOn mid new → StandStill mid new → SomeStood old mid server key → SomeStood old new server key
stood_looked old mid new server key told then still some = stood_both old mid new server key told then (kept_each mid.stores new.stores still) some

-- ---- a put of one share

module _ {S : Type 0} (store : Ghosts S) {old new : GridState} {s : ℕ} {before after : S} (call : IsCall old new s (seen_as store before) (seen_as store after)) where
  pub kept_called : (IsTrue (store.honest before) → IsTrue (store.honest after)) → (IsTrue (store.honest before) → (key : ShareKey) → IsSome (get (store.shares before) key) → IsSome (get (store.shares after) key)) → EachStore KeepsShares old.stores new.stores
  kept_called honest keeps =
      subst (λ (g : GridState). EachStore KeepsShares old.stores g.stores) (sym call.is)
      (each_set KeepsShares old.stores s (seen_as store before) (seen_as store after) kept_same call.at (λ is. (honest is, keeps is)))

  -- a share stood in the store, be it honest or not
  pub stood_called : {A : Type 0} (key : ShareKey) (bytes : List ℕ) (answer : Result A StoreFault) (result : Result A GridFault) → result ≡ answer_of s answer → AllTell old
      → (IsTrue (store.honest before) → OnOk answer (store.shares after ≡ put_once (store.shares before) key bytes))
      → (IsShared (store.honest before) (store.history before) → OnOk answer ((c : Shares) × StoodAmid (store.history before) (store.history after) c × IsSome (get c key)))
      → OnOk result (SomeStood old new s key)
  stood_called key bytes answer result told all put stood = elim (tells_there call all) [
    | inl honest ↦ ok_told s answer result _ _ told
        (λ is. there
        (λ _. subst (λ (m : Shares). IsSome (get m key)) (sym is) (stands_put (store.shares before) key bytes))
        (λ shared. absurd (not_both honest shared.not_honest)))
        (put honest)
    | inr shared ↦ ok_told s answer result _ _ told
        (λ at. there (λ honest. absurd (not_both honest shared.not_honest)) (λ _. at))
        (stood shared)
  ]
    where
      there : (IsTrue (store.honest before) → IsSome (get (store.shares after) key))
          → (IsShared (store.honest before) (store.history before) → (c : Shares) × StoodAmid (store.history before) (store.history after) c × IsSome (get c key))
          → SomeStood old new s key
      there honest shared = record {
        before = seen_as store before;
        after = seen_as store after;
        was = call.at;
        is = ap (λ (g : GridState). slice_get g.stores s) call.is ∙ set_there old.stores s (seen_as store before) (seen_as store after) call.at;
        honest = honest;
        shared = shared;
      }

-- ---- shares put one after the other

-- one stood at the place of each of the first n shares
abbrev pub EachStood : GridState → GridState → (ℕ → ℕ) → List ℕ → ℕ → Type 0
EachStood old new server index n = (i : ℕ) → i < n → SomeStood old new (server i) (index, i)

pub each_stood_next : (old mid new : GridState) (server : ℕ → ℕ) (index : List ℕ) (n : ℕ) → TellOn old mid → TellOn mid new → EachStore KeepsShares mid.stores new.stores → EachStood old mid server index n → SomeStood mid new (server n) (index, n)
    → EachStood old new server index (n + 1)
each_stood_next old mid new server index n told then kept each here i lt = by_place (last_or_before i n lt)
  where
    last_or_before : (i n : ℕ) → i < n + 1 → (i < n) ⊎ (i ≡ n)
    last_or_before zero zero lt = inr refl
    last_or_before zero (suc n) lt = inl (omega arith)
    last_or_before (suc i) zero lt = absurd (omega (arith, lt))
    last_or_before (suc i) (suc n) lt = elim (last_or_before i n (omega (arith, lt))) [ inl before ↦ inl (omega (arith, before)) | inr same ↦ inr (ap suc same) ]

    by_place : (i < n) ⊎ (i ≡ n) → SomeStood old new (server i) (index, i)
    by_place (inl before) = stood_both old mid new (server i) (index, i) told then kept (each i before)
    by_place (inr same) = subst (λ (k : ℕ). SomeStood old new (server k) (index, k)) (sym same) (stood_later old mid new (server n) (index, n) told here)
