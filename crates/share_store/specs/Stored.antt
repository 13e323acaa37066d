-- Shares as they are kept: by storage index, and under it by number.
use Rattle.std.specs.Prelude.{◌<◌, ℕ, List, [], ◌∷◌, ◌++◌, map, filter, not, All, replicate}
use Rattle.std.specs.Ordering.{nat_cmp}
use Rattle.std.specs.Cmp.Lexicographic.{slice_cmp}
use Rattle.std.specs.FinMap.{from_sorted}
use Rattle.std.specs.Rc.{rc_slice_items}
use Rattle.std.specs.BTreeMap.{BTreeMap, IsOrdered, values, btree_map_len}
use Rattle.std.specs.BTreeMap.Range.{is_from_start}
use Rattle.std.specs.declared.ops.Bound.{Bound}
use Rattle.std.specs.List.Sorted.{IsStrictlySortedBy-prop}
use Rattle.std.proofs.Props.{props}
use Rattle.share_store.specs.declared.share.Share.{Share}
use Rattle.share_store.specs.Shares.{Shares, ShareEntry}

-- a share as an entry of the map
abbrev pub entry_of : Share → ShareEntry
entry_of share = ((share.index, share.number), rc_slice_items share.bytes)

-- so many bytes, each 0: what stands where only the length of a share is known
abbrev pub blank : ℕ → List ℕ
blank len = replicate len 0

-- shares by number, under one index
abbrev pub Numbers : Type 0 → Type 0
Numbers B = BTreeMap ℕ B

-- shares by index and number
abbrev pub Indexes : Type 0 → Type 0
Indexes B = BTreeMap (List ℕ) (Numbers B)

module _ {B : Type 0} (bytes_in : B → List ℕ) where
  -- the shares under one index
  abbrev pub entries_at : List ℕ → List (ℕ × B) → List ShareEntry
  entries_at index numbers = map (λ n. ((index, n.0), bytes_in n.1)) numbers

  -- the shares under all of them
  abbrev pub entries_under : List (List ℕ × Numbers B) → List ShareEntry
  entries_under [] = []
  entries_under (e ∷ es) = entries_at e.0 e.1.entries ++ entries_under es

  abbrev pub shares_in : Indexes B → Shares
  shares_in indexes = from_sorted (entries_under indexes.entries)

-- the indexes that are before a bound
abbrev pub indexes_before : {X : Type 0} → Bound (List ℕ) → List (List ℕ × X) → List (List ℕ × X)
indexes_before from es = filter (λ e. not (is_from_start (slice_cmp nat_cmp) from e.0)) es

-- Indexes rise, and under each at least one number stands, rising.
pub record IsKept {B : Type 0} (indexes : Indexes B) : Type 0 where
  pub ordered : IsOrdered (slice_cmp nat_cmp) indexes
  pub numbers : All (λ numbers. IsOrdered nat_cmp numbers) (values indexes)
  pub none_empty : All (λ numbers. 0 < btree_map_len numbers) (values indexes)

pub IsKept-prop : {B : Type 0} (indexes : Indexes B) → IsProp (IsKept indexes)
IsKept-prop indexes = hlevel (props, IsStrictlySortedBy-prop)
