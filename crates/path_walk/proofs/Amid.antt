-- Walks whose reads see stores that others change.
use Rattle.std.proofs.Common.{◌≡◌, ◌≢◌, ◌⊎◌, inl, inr, ◌<◌, ℕ, List, [], ◌∷◌, Option, Some, None, Contains, Result, Ok, Err, IfOk, IfErr, refl, sym, ap, subst, ◌∙◌, arith}
use Rattle.std.specs.Prelude.{IsErrAnd}
use Rattle.grid.specs.GridState.{GridState, raised_at, failures_at}
use Rattle.grid.specs.Standing.{Standing, standing}
use Rattle.grid.specs.Leaves.{Leaves}
use Rattle.grid.specs.Views.{Sees, TellOn, StandStill}
use Rattle.grid.proofs.Views.{tell_on_none, tell_on_both, still_none, sees_whole}
use Rattle.caps.specs.Fields.{ReadValue}
use Rattle.caps.specs.StorageIndex.{index_of}
use Rattle.caps.specs.declared.cap.Cap.{Cap}
use Rattle.caps.specs.declared.cap.Cap.TheVariants.{Chk, Lit, DirChk, DirLit, ChkVerify, DirChkVerify}
use Rattle.file_shares.specs.Row.{ShareTable}
use Rattle.chk_file.specs.Tables.{table_of}
use Rattle.chk_file.specs.Reached.{OfReachedIn}
use Rattle.file_shares.specs.Fit.{fit}
use Rattle.chk_file.specs.Cached.{CacheEntry}
use Rattle.chk_file.specs.Amid.{SeesReached, IsKeptOrSeen, AreKeptSeen}
use Rattle.chk_file.proofs.Amid.{seen_so}
use Rattle.path_walk.specs.Walk.{FileLookup, child_in, child_below, walked, then_on}
use Rattle.path_walk.specs.Agree.{GivesSameAt}
use Rattle.path_walk.specs.Amid.{IsCached, IsGivenAmid, GivesAt, IsStepBy, StepsOn, WalksBy}
use Rattle.path_walk.specs.declared.fault.WalkFault.{WalkFault}
use Rattle.path_walk.specs.declared.fault.WalkFault.TheVariants.{NotDirectory, NotEnoughShares, NoMemory}
use Rattle.path_walk.proofs.WalkLemmas.{child_agrees}

-- ---- a part of a call

-- what was reached of what a part of a call saw was reached of what the whole call saw
module _ (first old new last : GridState) (before : Leaves first old) (told : TellOn first old) (still : StandStill first old) (amid : TellOn old new) (after : Leaves new last) (then : TellOn new last) where
  reached_too : (stands : Standing) (row : ShareTable) (index : List ℕ) (server number : ℕ) → (row server number ≡ table_of stands index server number) ⊎ ((failures_at old server < failures_at new server) × (row server number ≡ None))
      → (row server number ≡ table_of stands index server number) ⊎ ((failures_at first server < failures_at last server) × (row server number ≡ None))
  reached_too stands row index server number (inl same) = inl same
  reached_too stands row index server number (inr (failed, none)) = let rose = before.rises server in let more = after.rises server in inr (omega (arith, rose, more, failed), none)

  pub seen_amid : (index : List ℕ) (Says : ShareTable → Type 0) → SeesReached old new index Says → SeesReached first last index Says
  seen_amid index Says seen =
      sees_whole first old new last (λ views. OfReachedIn (standing views) first last index Says) told still amid then
      (seen_so old new (λ views. OfReachedIn (standing views) old new index Says) (λ views. OfReachedIn (standing views) first last index Says)
      (λ views long of. record { row = of.row; reached = record { each = λ server number. reached_too (standing views) of.row index server number (of.reached.each server number) }; says = of.says }) seen)

  -- what was found before the part was found in the call
  seen_before : (f : ReadValue) (bytes : List ℕ) → Sees first old (λ views. fit (table_of (standing views) (index_of f.key)) f ≡ Some bytes)
      → SeesReached first last (index_of f.key) (λ row. fit row f ≡ Some bytes)
  seen_before f bytes seen =
      sees_whole first first old last (λ views. OfReachedIn (standing views) first last (index_of f.key) (λ row. fit row f ≡ Some bytes))
      (tell_on_none first) (still_none first) told (tell_on_both old new last amid then)
      (seen_so first old (λ views. fit (table_of (standing views) (index_of f.key)) f ≡ Some bytes) (λ views. OfReachedIn (standing views) first last (index_of f.key) (λ row. fit row f ≡ Some bytes))
      (λ views long is. record { row = table_of (standing views) (index_of f.key); reached = record { each = λ server number. inl refl }; says = is }) seen)

  -- what a read in the part gives a read in the call gives: what was kept before the part was kept before the call, or seen in it
  pub given_amid : (cache between : List CacheEntry) → AreKeptSeen cache between first old → (f : ReadValue) (found : Option (List ℕ)) → IsGivenAmid between old new f found → IsGivenAmid cache first last f found
  given_amid cache between kept f found (inl was) = elim (kept (f, (was.stamp, was.bytes)) was.there) [
    | inl there ↦ inl (record { stamp = was.stamp; bytes = was.bytes; there = there; is = was.is })
    | inr seen ↦ inr (subst (λ (o : Option (List ℕ)). SeesReached first last (index_of f.key) (λ row. fit row f ≡ o)) (sym was.is) (seen_before f was.bytes seen))
  ]
  given_amid cache between kept f found (inr seen) = inr (seen_amid (index_of f.key) (λ row. fit row f ≡ found) seen)

-- ---- steps

-- a fault that was passed on
pub is_passed_on : (r : Result Cap WalkFault) (fault : WalkFault) → IsErrAnd r (λ e. e ≡ fault) → r ≡ Err fault
is_passed_on (Ok end) fault is = absurd is
is_passed_on (Err e) fault is = ap Err is

pub not_memory : (child : Cap) → (let r : Result Cap WalkFault = Ok child in r ≢ Err NoMemory)
not_memory child same = cc

-- an answer but that of memory
pub result_is : (r x : Result Cap WalkFault) → IfOk r (λ child. x ≡ Ok child) → IfErr r (λ fault. fault ≢ NoMemory → x ≡ Err fault) → r ≢ Err NoMemory → r ≡ x
result_is (Ok child) x found refused some = sym found
result_is (Err fault) x found refused some = sym (refused (λ same. some (ap Err same)))

module _ (cache : List CacheEntry) (old new : GridState) (f : ReadValue) (name : List ℕ) (r : Result Cap WalkFault) where
  -- the bytes that a read gave were looked through
  pub step_read : (bytes : List ℕ) → IsKeptOrSeen cache old new f bytes → IfOk r (λ child. child_in name bytes ≡ Ok child) → IfErr r (λ fault. fault ≢ NoMemory → child_in name bytes ≡ Err fault)
      → r ≢ Err NoMemory → IsStepBy (IsGivenAmid cache old new) (DirChk f) name r
  step_read bytes given found refused some = record { gives = λ _. Some bytes; given = of given; is = result_is r (child_in name bytes) found refused some }
    where
      of : IsKeptOrSeen cache old new f bytes → IsGivenAmid cache old new f (Some bytes)
      of (inl there) = inl (record { stamp = raised_at old (index_of f.key); bytes = bytes; there = there; is = refl })
      of (inr seen) = inr seen

  -- or it gave none
  pub step_missed : SeesReached old new (index_of f.key) (λ row. fit row f ≡ None) → r ≡ Err NotEnoughShares → IsStepBy (IsGivenAmid cache old new) (DirChk f) name r
  step_missed seen is = record { gives = λ _. None; given = inr seen; is = is }

-- the bytes stand in the cap
pub step_here : (Given : ReadValue → Option (List ℕ) → Type 0) (own name : List ℕ) (r : Result Cap WalkFault) → r ≡ child_in name own → IsStepBy Given (DirLit own) name r
step_here Given own name r is = record { gives = λ _. None; given = tt; is = is }

-- or the cap reads no directory
pub step_nowhere : (Given : ReadValue → Option (List ℕ) → Type 0) (cap : Cap) (name : List ℕ) → ((gives : FileLookup) → child_below gives cap name ≡ Err NotDirectory) → IsStepBy Given cap name (Err NotDirectory)
step_nowhere Given (Chk fields) name none = record { gives = λ _. None; given = tt; is = refl }
step_nowhere Given (Lit bytes) name none = record { gives = λ _. None; given = tt; is = refl }
step_nowhere Given (DirChk fields) name none = absurd (let same : child_below (λ _. None) (DirChk fields) name ≡ Err NotDirectory = none (λ _. None) in cc)
step_nowhere Given (DirLit own) name none = record { gives = λ _. None; given = tt; is = sym (none (λ _. None)) }
step_nowhere Given (ChkVerify fields) name none = record { gives = λ _. None; given = tt; is = refl }
step_nowhere Given (DirChkVerify fields) name none = record { gives = λ _. None; given = tt; is = refl }

-- ---- walks

module _ (Given Other : ReadValue → Option (List ℕ) → Type 0) (so : (f : ReadValue) (found : Option (List ℕ)) → Given f found → Other f found) where
  gives_so : (gives : FileLookup) (cap : Cap) → GivesAt Given gives cap → GivesAt Other gives cap
  gives_so gives (Chk fields) given = tt
  gives_so gives (Lit bytes) given = tt
  gives_so gives (DirChk fields) given = so fields (gives fields) given
  gives_so gives (DirLit bytes) given = tt
  gives_so gives (ChkVerify fields) given = tt
  gives_so gives (DirChkVerify fields) given = tt

  -- what each read gives may be said in other words
  pub step_so : (cap : Cap) (name : List ℕ) (r : Result Cap WalkFault) → IsStepBy Given cap name r → IsStepBy Other cap name r
  step_so cap name r by = record { gives = by.gives; given = gives_so by.gives cap by.given; is = by.is }

  goes_so : (more : List (List ℕ)) (step r : Result Cap WalkFault) → ((child : Cap) → WalksBy Given child more r → WalksBy Other child more r)
      → StepsOn (λ child. WalksBy Given child more) step r → StepsOn (λ child. WalksBy Other child more) step r
  goes_so more (Ok child) r each on = each child on
  goes_so more (Err fault) r each on = on

  pub walks_so : (cap : Cap) (names : List (List ℕ)) (r : Result Cap WalkFault) → WalksBy Given cap names r → WalksBy Other cap names r
  walks_so cap [] r walks = walks
  walks_so cap (name ∷ more) r walks =
      (walks.0, step_so cap name walks.0 walks.1, goes_so more walks.0 r (λ child. walks_so child more r) walks.2)

module _ (gives : FileLookup) where
  same_at : (look : FileLookup) (cap : Cap) → GivesAt (λ f found. found ≡ gives f) look cap → GivesSameAt look gives cap
  same_at look (Chk fields) given = tt
  same_at look (Lit bytes) given = tt
  same_at look (DirChk fields) given = given
  same_at look (DirLit bytes) given = tt
  same_at look (ChkVerify fields) given = tt
  same_at look (DirChkVerify fields) given = tt

  gives_same : (cap : Cap) → GivesAt (λ f found. found ≡ gives f) gives cap
  gives_same (Chk fields) = tt
  gives_same (Lit bytes) = tt
  gives_same (DirChk fields) = refl
  gives_same (DirLit bytes) = tt
  gives_same (ChkVerify fields) = tt
  gives_same (DirChkVerify fields) = tt

  on_one : (more : List (List ℕ)) (step r : Result Cap WalkFault) → ((child : Cap) → WalksBy (λ f found. found ≡ gives f) child more r → r ≡ walked gives child more)
      → StepsOn (λ child. WalksBy (λ f found. found ≡ gives f) child more) step r → r ≡ then_on (λ child. walked gives child more) step
  on_one more (Ok child) r each on = each child on
  on_one more (Err fault) r each on = on

  -- a walk of which each read gives what one look gives is the walk by that look
  pub walks_one : (cap : Cap) (names : List (List ℕ)) (r : Result Cap WalkFault) → WalksBy (λ f found. found ≡ gives f) cap names r → r ≡ walked gives cap names
  walks_one cap [] r walks = walks
  walks_one cap (name ∷ more) r walks =
      on_one more walks.0 r (λ child. walks_one child more r) walks.2
      ∙ ap (then_on (λ child. walked gives child more)) (walks.1.is ∙ child_agrees walks.1.gives gives cap name (same_at walks.1.gives cap walks.1.given))

  goes_one : (more : List (List ℕ)) (step : Result Cap WalkFault) → ((child : Cap) → WalksBy (λ f found. found ≡ gives f) child more (walked gives child more))
      → StepsOn (λ child. WalksBy (λ f found. found ≡ gives f) child more) step (then_on (λ child. walked gives child more) step)
  goes_one more (Ok child) each = each child
  goes_one more (Err fault) each = refl

  -- and that is such a walk
  pub one_walks : (cap : Cap) (names : List (List ℕ)) → WalksBy (λ f found. found ≡ gives f) cap names (walked gives cap names)
  one_walks cap [] = refl
  one_walks cap (name ∷ more) =
      (child_below gives cap name, record { gives = gives; given = gives_same cap; is = refl }, goes_one more (child_below gives cap name) (λ child. one_walks child more))
