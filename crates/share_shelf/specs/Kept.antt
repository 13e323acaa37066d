-- The changes that a shelf in memory was told, and what they left.
use Rattle.std.specs.Prelude.{◌≡◌, ◌≤◌, ℕ, List, [], ◌∷◌, map, take, length, Option, Some, None}
use Rattle.std.proofs.Common.{arith, sym, ap}
use Rattle.std.proofs.Math.Seq.{take-length}
use Rattle.std.specs.FinMap.{empty, insert, remove}
use Rattle.std.specs.Option.{option_map}
use Rattle.std.specs.Rc.{rc_slice_items}
use Rattle.share_store.specs.Shares.{Shares, ShareKey}
use Rattle.share_shelf.specs.declared.mem_shelf.Change.{Change}

-- what stands at a key, or that nothing does
abbrev pub KnownShare : Type 0
KnownShare = ShareKey × Option (List ℕ)

abbrev pub told_by : Change → KnownShare
told_by change = ((change.index, change.number), option_map rc_slice_items change.bytes)

abbrev pub told_of : List Change → List KnownShare
told_of changes = map told_by changes

abbrev pub with_told : KnownShare → Shares → Shares
with_told (key, None) m = remove m key
with_told (key, Some bytes) m = insert m key bytes

-- after these changes, the first of them first
abbrev pub after_changes : List KnownShare → Shares → Shares
after_changes [] m = m
after_changes (t ∷ told) m = after_changes told (with_told t m)

-- what stood after the first k changes
abbrev pub stood_after : List KnownShare → ℕ → Shares
stood_after told k = after_changes (take k told) empty

-- what stood after each of these changes, the first of them first
abbrev pub states_from : Shares → List KnownShare → List Shares
states_from m [] = []
states_from m (t ∷ told) = with_told t m ∷ states_from (with_told t m) told

-- what stood after some of the changes, no fewer than t
pub record HadBeen (told : List KnownShare) (t : ℕ) (c : Shares) : Type 0 where
  pub k : ℕ
  pub from : t ≤ k
  pub to : k ≤ length told
  pub stood : c ≡ stood_after told k

pub narrowed : (told : List KnownShare) (t u : ℕ) (c : Shares) → t ≤ u → HadBeen told u c → HadBeen told t c
narrowed told t u c le had = record { k = had.k; from = omega arith; to = had.to; stood = had.stood }

-- shares that a crash now leaves, and no others, are what stands
pub kept_is : (told : List KnownShare) (m : Shares) → ((c : Shares) → HadBeen told (length told) c → c ≡ m) → m ≡ after_changes told empty
kept_is told m keeps =
    sym (keeps (after_changes told empty) (record { k = length told; from = omega arith; to = omega arith; stood = ap (λ (l : List KnownShare). after_changes l empty) (sym (take-length told)) }))
