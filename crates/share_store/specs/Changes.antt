-- What is done to a store in memory that others change too, and what stood in it.
use Rattle.std.specs.Prelude.{◌≡◌, ℕ, List, [], ◌∷◌, map, Option, Some, None, Vec}
use Rattle.std.specs.Coded.{Coded-set, coded×, coded_ℕ, coded_list}
use Rattle.std.specs.FinMap as finite
use Rattle.std.specs.FinMap.{remove}
use Rattle.std.specs.Option.{option_map}
use Rattle.std.specs.Rc.{rc_slice_items}
use Rattle.share_store.specs.Shares.{Shares, ShareKey, key_cmp}
use Rattle.share_store.specs.Put.{put_once}
use Rattle.share_store.specs.declared.shared_memory.ShareChange.{ShareChange}

-- that a share is put at a key, or that the one there is lost
abbrev pub ChangeMade : Type 0
ChangeMade = ShareKey × Option (List ℕ)

abbrev pub change_made : ShareChange → ChangeMade
change_made change = ((change.index, change.number), option_map rc_slice_items change.bytes)

abbrev pub changes_made : List ShareChange → List ChangeMade
changes_made changes = map change_made changes

-- with a share where none stands, or without the one there
abbrev pub with_change : ChangeMade → Shares → Shares
with_change (key, None) m = remove m key
with_change (key, Some bytes) m = put_once m key bytes

-- after these changes, the first of them first
abbrev pub left_by : List ChangeMade → Shares → Shares
left_by [] m = m
left_by (change ∷ changes) m = left_by changes (with_change change m)

-- what stood before these changes, and after each of them
abbrev pub stood_along : Shares → List ChangeMade → List Shares
stood_along m [] = m ∷ []
stood_along m (change ∷ changes) = m ∷ stood_along (with_change change m) changes

-- batches of changes
abbrev pub script_of : {Z : Type 0} → List (Vec ShareChange Z) → List (List ChangeMade)
script_of batches = map (λ batch. changes_made batch.items) batches

-- the next batch of a script, none where it is over
abbrev pub next_batch : List (List ChangeMade) → List ChangeMade
next_batch [] = []
next_batch (batch ∷ batches) = batch

-- those after it
abbrev pub later_batches : List (List ChangeMade) → List (List ChangeMade)
later_batches [] = []
later_batches (batch ∷ batches) = batches

-- an equation of shares has one proof
pub shares_equal-prop : (a b : Shares) → IsProp (a ≡ b)
shares_equal-prop a b = Coded-set (finite.code {R = key_cmp} (coded× (coded_list coded_ℕ) coded_ℕ) (coded_list coded_ℕ)) a b
