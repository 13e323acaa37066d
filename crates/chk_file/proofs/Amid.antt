-- What is reached of what a call sees.
use Rattle.std.proofs.Common.{◌≡◌, ◌⊎◌, inl, inr, ◌<◌, ◌≤◌, ℕ, List, [], ◌∷◌, length, filter, Option, Some, None, refl, sym, ap, subst, ◌∙◌, arith, Result, Err, IfOk, IsErrOf, IfSome, Contains}
use Rattle.std.specs.Prelude.{nat_lt, MatchOption}
use Rattle.std.proofs.lemmas.Result.{IfOk-weaker}
use Rattle.share_store.specs.Shares.{Shares}
use Rattle.share_store.specs.NumberedShares.{AllBut}
use Rattle.grid.specs.GridState.{GridState, StoreState, stood, failures_at, raised_at, IsHonest, NoneFailed}
use Rattle.grid.specs.Standing.{Standing, standing}
use Rattle.grid.specs.Found.{found_below}
use Rattle.grid.specs.FoundLaws.{FoundLaws}
use Rattle.grid.specs.Leaves.{Leaves}
use Rattle.grid.specs.Views.{AllTell, AreViews, Sees, TellOn, StandStill}
use Rattle.grid.proofs.Views.{honest_tell, sees_honest, sees_whole, tell_on_none, still_none}
use Rattle.caps.specs.Fields.{ReadValue}
use Rattle.caps.specs.StorageIndex.{index_of}
use Rattle.share_codec.specs.Params.{ParamsValue}
use Rattle.file_shares.specs.Row.{ShareTable, places, good_shares}
use Rattle.chk_file.specs.Tables.{table_of}
use Rattle.chk_file.specs.Reached.{IsReachedIn, OfReachedIn, OfReached}
use Rattle.file_shares.specs.Gathered.{Found, of_number, by_number, good_below}
use Rattle.file_shares.specs.Fit.{fit_in, fit}
use Rattle.chk_file.specs.Cached.{CacheEntry, IsWithin, IsWithinOr}
use Rattle.chk_file.specs.Amid.{SeesReached, AreKeptSeen, IsKeptOrSeen}
use Rattle.chk_file.proofs.Reached.{IsGathered, gathered_is_reached, IsGatheredBelow, low_is_reached}
use Rattle.chk_file.proofs.LowRows.{in_row}

-- there is one view of each server
length-views : (ts us : List StoreState) (views : List Shares) → AreViews ts us views → length views ≡ length ts
length-views [] [] [] are = refl
length-views (t ∷ ts) (u ∷ us) (view ∷ views) are = let more = length-views ts us views are.1 in omega (arith, more)
length-views ts us views are = absurd are

-- what follows from what is said of what a call saw is said of it too
pub seen_so : (old new : GridState) (P Q : List Shares → Type 0) → ((views : List Shares) → length views ≡ length old.stores → P views → Q views) → Sees old new P → Sees old new Q
seen_so old new P Q so seen = (seen.0, seen.1, so seen.0 (length-views old.stores new.stores seen.0 seen.1) seen.2)

-- ---- what was gathered

module _ (laws : FoundLaws) (index other : List ℕ) (old new : GridState) (found lent : List Found) (few : length old.stores ≤ 256) (same : other ≡ index) (is : found ≡ lent) where
  abbrev Missed : Found → Type 0
  Missed f = failures_at old f.0 < failures_at new f.0

  -- what is said of each row of which these were gathered is said of one that was reached of what the call saw
  pub gathered_seen : (Says : ShareTable → Type 0) → ((row : ShareTable) → ((number : ℕ) → of_number number found ≡ places row number) → Says row)
      → Sees old new (λ views. AllBut Missed (found_below views other (length old.stores)) lent) → SeesReached old new index Says
  gathered_seen Says of_row =
      seen_so old new (λ views. AllBut Missed (found_below views other (length old.stores)) lent) (λ views. OfReachedIn (standing views) old new index Says)
      (λ views long all.
      let low : AllBut Missed (found_below views index (length old.stores)) found =
      subst (λ (fs : List Found). AllBut Missed (found_below views index (length old.stores)) fs) (sym is)
      (subst (λ (si : List ℕ). AllBut Missed (found_below views si (length old.stores)) lent) same all) in
      let there : IsGathered views old new index found = gathered_is_reached laws views old new index found few long low in
      record { row = there.row; reached = there.reached; says = of_row there.row there.is })

  -- what those of the numbers below a limit give is what such a row gives
  pub low_seen : (limit : ℕ) (p : ParamsValue) (key ueb bytes : List ℕ) → fit_in p key (good_below p ueb (by_number p.n found) p.n) ≡ Some bytes
      → Sees old new (λ views. AllBut Missed (filter (λ (f : Found). nat_lt f.1 limit) (found_below views other (length old.stores))) lent)
      → SeesReached old new index (λ row. fit_in p key (good_shares p ueb row) ≡ Some bytes)
  low_seen limit p key ueb bytes e =
      seen_so old new (λ views. AllBut Missed (filter (λ (f : Found). nat_lt f.1 limit) (found_below views other (length old.stores))) lent)
      (λ views. OfReachedIn (standing views) old new index (λ row. fit_in p key (good_shares p ueb row) ≡ Some bytes))
      (λ views long all.
      let low : AllBut Missed (filter (λ (f : Found). nat_lt f.1 limit) (found_below views index (length old.stores))) found =
      subst (λ (fs : List Found). AllBut Missed (filter (λ (f : Found). nat_lt f.1 limit) (found_below views index (length old.stores))) fs) (sym is)
      (subst (λ (si : List ℕ). AllBut Missed (filter (λ (f : Found). nat_lt f.1 limit) (found_below views si (length old.stores))) lent) same all) in
      let there : IsGatheredBelow limit views old new index found = low_is_reached laws limit views old new index found few long low in
      record { row = there.row; reached = there.reached; says = in_row p key ueb limit views old new index found bytes there e })

-- ---- where no store failed

not_failed : (o stands : Option (List ℕ)) (before after : ℕ) → after ≡ before → (o ≡ stands) ⊎ ((before < after) × (o ≡ None)) → o ≡ stands
not_failed o stands before after calm (inl same) = same
not_failed o stands before after calm (inr (failed, none)) = absurd (omega arith)

-- what was reached is all that stands
pub all_reached : (stands : Standing) (old new : GridState) (index : List ℕ) (row : ShareTable) → NoneFailed old new → IsReachedIn stands old new index row → row ≡ table_of stands index
all_reached stands old new index row calm reached =
    let point : (server number : ℕ) → row server number ≡ table_of stands index server number =
    λ server number. not_failed (row server number) (table_of stands index server number) (failures_at old server) (failures_at new server) (calm server) (reached.each server number) in
    λ i server number. point server number i

pub said_of_all : (stands : Standing) (old new : GridState) (index : List ℕ) (Says : ShareTable → Type 0) → NoneFailed old new → OfReachedIn stands old new index Says → Says (table_of stands index)
said_of_all stands old new index Says calm of = subst Says (all_reached stands old new index of.row calm of.reached) of.says

-- ---- of honest stores

module _ (old new : GridState) (index : List ℕ) where
  -- what was reached of what the call saw was reached of what stood
  pub reached_honest : (Says : ShareTable → Type 0) → (AllTell old → SeesReached old new index Says) → IsHonest old → OfReached old new index Says
  reached_honest Says seen all = sees_honest old new (λ views. OfReachedIn (standing views) old new index Says) all (seen (honest_tell old all))

  -- and where none failed it is said of all that stood
  pub stood_honest : (Says : ShareTable → Type 0) → (AllTell old → SeesReached old new index Says) → IsHonest old → NoneFailed old new → Says (table_of (stood old) index)
  stood_honest Says seen all calm = said_of_all (stood old) old new index Says calm (reached_honest Says seen all)

  module _ {T E : Type 0} (Says : T → ShareTable → Type 0) (answer : Result T E) (seen : AllTell old → IfOk answer (λ x. SeesReached old new index (Says x))) where
    pub found_reached : IsHonest old → IfOk answer (λ x. OfReached old new index (Says x))
    found_reached all = IfOk-weaker answer (λ x. SeesReached old new index (Says x)) (λ x. OfReached old new index (Says x)) (λ x there. reached_honest (Says x) (λ _. there) all) (seen (honest_tell old all))

    pub found_stood : IsHonest old → NoneFailed old new → IfOk answer (λ x. Says x (table_of (stood old) index))
    found_stood all calm = IfOk-weaker answer (λ x. SeesReached old new index (Says x)) (λ x. Says x (table_of (stood old) index)) (λ x there. stood_honest (Says x) (λ _. there) all calm) (seen (honest_tell old all))

-- ---- calls one after the other

-- what was reached of what the second of two calls saw was reached of what both together saw
pub seen_second : (old mid new : GridState) (index : List ℕ) (Says : ShareTable → Type 0) → Leaves old mid → TellOn old mid → StandStill old mid → TellOn mid new
    → SeesReached mid new index Says → SeesReached old new index Says
seen_second old mid new index Says left told still then seen =
    sees_whole old mid new new (λ views. OfReachedIn (standing views) old new index Says) told still then (tell_on_none new)
    (seen_so mid new (λ views. OfReachedIn (standing views) mid new index Says) (λ views. OfReachedIn (standing views) old new index Says)
    (λ views long of. record { row = of.row; reached = record { each = λ server number. failed_too (standing views) of.row server number (of.reached.each server number) }; says = of.says }) seen)
  where
    failed_too : (stands : Standing) (row : ShareTable) (server number : ℕ) → (row server number ≡ table_of stands index server number) ⊎ ((failures_at mid server < failures_at new server) × (row server number ≡ None))
        → (row server number ≡ table_of stands index server number) ⊎ ((failures_at old server < failures_at new server) × (row server number ≡ None))
    failed_too stands row server number (inl same) = inl same
    failed_too stands row server number (inr (failed, none)) = let rose = left.rises server in inr (omega (arith, rose, failed), none)

pub found_second : {T E : Type 0} (old mid new : GridState) (index : List ℕ) (Says : T → ShareTable → Type 0) (answer : Result T E) → Leaves old mid → TellOn old mid → StandStill old mid → TellOn mid new
    → IfOk answer (λ x. SeesReached mid new index (Says x)) → IfOk answer (λ x. SeesReached old new index (Says x))
found_second old mid new index Says answer left told still then =
    IfOk-weaker answer (λ x. SeesReached mid new index (Says x)) (λ x. SeesReached old new index (Says x)) (λ x there. seen_second old mid new index (Says x) left told still then there)

-- ---- what is kept

pub kept_within : (old new : GridState) (cache kept : List CacheEntry) → IsWithin cache kept → AreKeptSeen cache kept old new
kept_within old new cache kept within entry there = inl (within entry there)

-- before or after a call entries are let go
pub kept_after : (old new : GridState) (cache mid kept : List CacheEntry) → IsWithin cache mid → AreKeptSeen mid kept old new → AreKeptSeen cache kept old new
kept_after old new cache mid kept within seen entry there = elim (seen entry there) [
  | inl stood ↦ inl (within entry stood)
  | inr is ↦ inr is
]

pub kept_then : (old new : GridState) (cache mid kept : List CacheEntry) → AreKeptSeen cache mid old new → IsWithin mid kept → AreKeptSeen cache kept old new
kept_then old new cache mid kept seen within entry there = seen entry (within entry there)

-- what was kept in each of two calls was kept in both together
pub kept_both : (old mid new : GridState) (cache between kept : List CacheEntry) → TellOn old mid → StandStill old mid → TellOn mid new → AreKeptSeen cache between old mid → AreKeptSeen between kept mid new → AreKeptSeen cache kept old new
kept_both old mid new cache between kept told still then first second entry there =
    let Fits : List Shares → Type 0 = λ views. fit (table_of (standing views) (index_of entry.0.key)) entry.0 ≡ Some entry.1.1 in
    elim (second entry there) [
      | inl stood ↦ elim (first entry stood) [
        | inl was ↦ inl was
        | inr is ↦ inr (sees_whole old old mid new Fits (tell_on_none old) (still_none old) told then is)
      ]
      | inr is ↦ inr (sees_whole old mid new new Fits told still then (tell_on_none new) is)
    ]

-- what is kept after entries were let go was kept before
pub kept_or_seen_after : (old new : GridState) (cache mid : List CacheEntry) (f : ReadValue) (bytes : List ℕ) → IsWithin cache mid → IsKeptOrSeen mid old new f bytes → IsKeptOrSeen cache old new f bytes
kept_or_seen_after old new cache mid f bytes within or = elim or [
  | inl there ↦ inl (within (f, (raised_at old (index_of f.key), bytes)) there)
  | inr seen ↦ inr seen
]

-- what was found is kept, where no store failed
module _ (old new : GridState) (calm : NoneFailed old new) (f : ReadValue) (cache kept : List CacheEntry) where
  abbrev Found_in : List ℕ → Type 0
  Found_in bytes = SeesReached old new (index_of f.key) (λ row. fit row f ≡ Some bytes)

  kept_one : (stamp : ℕ) (bytes : List ℕ) → Found_in bytes → IsWithinOr cache kept (f, (stamp, bytes)) → AreKeptSeen cache kept old new
  kept_one stamp bytes found within entry there = elim (within entry there) [
    | inl stood ↦ inl stood
    | inr same ↦ inr (subst (λ (e : CacheEntry). Sees old new (λ views. fit (table_of (standing views) (index_of e.0.key)) e.0 ≡ Some e.1.1)) (sym same)
        (seen_so old new (λ views. OfReachedIn (standing views) old new (index_of f.key) (λ row. fit row f ≡ Some bytes)) (λ views. fit (table_of (standing views) (index_of f.key)) f ≡ Some bytes)
        (λ views long of. said_of_all (standing views) old new (index_of f.key) (λ row. fit row f ≡ Some bytes) calm of) found))
  ]

  -- with the stamp that there is, if any
  pub kept_found : (o : Option ℕ) (bytes : List ℕ) → Found_in bytes → MatchOption o (kept ≡ cache) (λ stamp. IsWithinOr cache kept (f, (stamp, bytes))) → AreKeptSeen cache kept old new
  kept_found None bytes found same = λ entry there. inl (subst (λ (entries : List CacheEntry). Contains entries entry) same there)
  kept_found (Some stamp) bytes found within = kept_one stamp bytes found within

  -- what was gathered, if it gives anything
  pub kept_given : (o : Option (List ℕ)) (stamp : ℕ) → IfSome o Found_in → MatchOption o (IsWithin cache kept) (λ bytes. IsWithinOr cache kept (f, (stamp, bytes))) → AreKeptSeen cache kept old new
  kept_given None stamp found within = kept_within old new cache kept within
  kept_given (Some bytes) stamp found within = kept_one stamp bytes found within
