-- Caches that are fresh, and what keeps them so.
use Rattle.std.proofs.Common.{◌≡◌, ◌≢◌, inl, inr, ℕ, ◌==◌, List, [], Bool, true, false, Option, Some, None, refl, sym, ap, subst, ◌∙◌, arith, IfSome, IfOk, Result, Ok, Err, Contains}
use Rattle.std.proofs.lemmas.Bool.Decides.{nat_tests}
use Rattle.std.specs.Prelude.{if◌then◌else◌, MatchOption}
use Rattle.lru.proofs.Splits.{Contains-nil}
use Rattle.grid.specs.Stamps.{last_count, stamp_of}
use Rattle.grid.specs.GridState.{GridState, stood, raised_at, IsHonest, NoneFailed}
use Rattle.grid.specs.Leaves.{Leaves}
use Rattle.grid.specs.Stamped.{IsStamped}
use Rattle.caps.specs.Fields.{ReadValue}
use Rattle.caps.specs.StorageIndex.{index_of}
use Rattle.file_shares.specs.Row.{ShareTable}
use Rattle.chk_file.specs.Tables.{table_of}
use Rattle.file_shares.specs.Fit.{fit}
use Rattle.chk_file.specs.Cached.{CacheEntry, IsWithin, IsWithinOr, IsCurrent, IsCacheCurrent}

-- what stands under an index whose stamp stayed is what stood
pub row_stays : (old new : GridState) → Leaves old new → IsStamped old new → (si : List ℕ) → IsHonest new → raised_at new si ≡ raised_at old si → raised_at new si ≢ last_count → table_of (stood new) si ≡ table_of (stood old) si
row_stays old new left stamped si all same fits = λ i server number. stamped.tells (left.was_honest all) si same fits server number i

pub current_stays : (old new : GridState) → Leaves old new → IsStamped old new → (entry : CacheEntry) → IsCurrent old entry → IsCurrent new entry
current_stays old new left stamped entry current =
    let si = index_of entry.0.key in
    record {
      low = omega (arith, current.low, stamped.rises si);
      counts = λ all is fits.
          let stayed : raised_at new si ≡ raised_at old si = omega (arith, current.low, stamped.rises si, is) in
          ap (λ (row : ShareTable). fit row entry.0) (row_stays old new left stamped si all stayed (λ last. fits (sym is ∙ last)))
          ∙ current.counts (left.was_honest all) (sym stayed ∙ is) fits;
    }

-- a call of a grid keeps a cache fresh
pub fresh_stays : (cache : List CacheEntry) (old new : GridState) → Leaves old new → IsStamped old new → IsCacheCurrent cache old → IsCacheCurrent cache new
fresh_stays cache old new left stamped fresh entry there = current_stays old new left stamped entry (fresh entry there)

pub fresh_within : (old new : List CacheEntry) (grid : GridState) → IsWithin old new → IsCacheCurrent old grid → IsCacheCurrent new grid
fresh_within old new grid within fresh entry there = fresh entry (within entry there)

pub fresh_none : (grid : GridState) → IsCacheCurrent [] grid
fresh_none grid entry there = absurd (Contains-nil entry there)

-- what a stamp tells of the count
pub stamp_tells : (n stamp : ℕ) → Some stamp ≡ stamp_of n → (n ≡ stamp) × (stamp ≢ last_count)
stamp_tells n stamp is = by_test (n == last_count) refl
  where
    by_test : (b : Bool) → (n == last_count) ≡ b → (n ≡ stamp) × (stamp ≢ last_count)
    by_test true e = absurd (let h : Some stamp ≡ None = is ∙ ap (λ t. if t then None else Some n) e in cc)
    by_test false e =
        let h : Some stamp ≡ Some n = is ∙ ap (λ t. if t then None else Some n) e in
        let same : n ≡ stamp = cc in
        (same, λ last. (let k : n ≡ last_count = same ∙ last in grind (arith, nat_tests)))

-- what was found at the present stamp is what verification finds
pub found_fits : (cache : List CacheEntry) (grid : GridState) (f : ReadValue) (stamp : ℕ) (bytes : List ℕ) → IsCacheCurrent cache grid → IsHonest grid → Some stamp ≡ stamp_of (raised_at grid (index_of f.key)) → Contains cache (f, (stamp, bytes))
    → fit (table_of (stood grid) (index_of f.key)) f ≡ Some bytes
found_fits cache grid f stamp bytes fresh all is there =
    let told = stamp_tells (raised_at grid (index_of f.key)) stamp is in
    (fresh (f, (stamp, bytes)) there).counts all told.0 told.1

-- what was read and kept, where no store failed
pub fresh_kept : (cache kept : List CacheEntry) (old new : GridState) (f : ReadValue) (stamp : ℕ) (bytes : List ℕ) → Leaves old new → IsStamped old new → NoneFailed old new
    → Some stamp ≡ stamp_of (raised_at old (index_of f.key)) → (IsHonest old → NoneFailed old new → fit (table_of (stood old) (index_of f.key)) f ≡ Some bytes)
    → IsWithinOr cache kept (f, (stamp, bytes)) → IsCacheCurrent cache old → IsCacheCurrent kept new
fresh_kept cache kept old new f stamp bytes left stamped calm is read within fresh entry there =
    let si = index_of f.key in
    let told = stamp_tells (raised_at old si) stamp is in
    let put : IsCurrent new (f, (stamp, bytes)) = record {
      low = omega (arith, told.0, stamped.rises si);
      counts = λ all present fits.
          let stayed : raised_at new si ≡ raised_at old si = present ∙ sym told.0 in
          ap (λ (row : ShareTable). fit row f) (row_stays old new left stamped si all stayed (λ last. fits (sym present ∙ last)))
          ∙ read (left.was_honest all) calm;
    } in
    elim (within entry there) [
      | inl stood ↦ current_stays old new left stamped entry (fresh entry stood)
      | inr same ↦ subst (IsCurrent new) (sym same) put
    ]

pub fresh_kept_if : (o : Option ℕ) (cache kept : List CacheEntry) (old new : GridState) (f : ReadValue) (bytes : List ℕ) → Leaves old new → IsStamped old new → NoneFailed old new
    → o ≡ stamp_of (raised_at old (index_of f.key)) → (IsHonest old → NoneFailed old new → fit (table_of (stood old) (index_of f.key)) f ≡ Some bytes)
    → MatchOption o (kept ≡ cache) (λ stamp. IsWithinOr cache kept (f, (stamp, bytes))) → IsCacheCurrent cache old → IsCacheCurrent kept new
fresh_kept_if None cache kept old new f bytes left stamped calm is read same fresh = subst (λ entries. IsCacheCurrent entries new) (sym same) (fresh_stays cache old new left stamped fresh)
fresh_kept_if (Some stamp) cache kept old new f bytes left stamped calm is read within fresh = fresh_kept cache kept old new f stamp bytes left stamped calm is read within fresh

-- strings that were gathered and kept, where no store failed
pub fresh_given : (o : Option (List ℕ)) (cache kept : List CacheEntry) (old new : GridState) (f : ReadValue) (stamp : ℕ) → Leaves old new → IsStamped old new → NoneFailed old new
    → Some stamp ≡ stamp_of (raised_at old (index_of f.key)) → (IsHonest old → NoneFailed old new → IfSome o (λ bytes. fit (table_of (stood old) (index_of f.key)) f ≡ Some bytes))
    → MatchOption o (IsWithin cache kept) (λ bytes. IsWithinOr cache kept (f, (stamp, bytes))) → IsCacheCurrent cache old → IsCacheCurrent kept new
fresh_given None cache kept old new f stamp left stamped calm is read within fresh = fresh_within cache kept new within (fresh_stays cache old new left stamped fresh)
fresh_given (Some bytes) cache kept old new f stamp left stamped calm is read within fresh = fresh_kept cache kept old new f stamp bytes left stamped calm is read within fresh

-- what a look-up found
pub found_all : {A E : Type 0} (bytes_of : A → List ℕ) (P Q : List ℕ → Type 0) (r : Result (Option A) E) → ((bytes : List ℕ) → P bytes → Q bytes)
    → IfOk r (λ o. IfSome o (λ b. P (bytes_of b))) → IfOk r (λ o. IfSome o (λ b. Q (bytes_of b)))
found_all bytes_of P Q (Err e) f h = tt
found_all bytes_of P Q (Ok None) f h = tt
found_all bytes_of P Q (Ok (Some b)) f h = f (bytes_of b) h
