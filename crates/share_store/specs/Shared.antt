-- What is seen of a store that others change.
use Rattle.std.specs.Prelude.{◌≡◌, Bool, false, List, [], ◌∷◌, ◌++◌, Some, Contains}
use Rattle.std.specs.FinMap.{get}
use Rattle.share_store.specs.Shares.{Shares, ShareKey}
use Rattle.share_store.specs.History.{History, GoesOnBy}

-- A store that isn't honest and tells of its past is one that others change too. What it tells is all that stood in it so far,
-- the oldest first: so there is always a last one, which stands now.
pub record IsShared (honest : Bool) (history : History) : Type 0 where
  pub not_honest : honest ≡ false
  pub before : List Shares
  pub last : Shares
  pub told : history ≡ Some (before ++ last ∷ [])

-- c stood at some moment of a call: it is what was told last before it, or was told since
pub record StoodAmid (old new : History) (c : Shares) : Type 0 where
  pub before : List Shares
  pub last : Shares
  pub since : List Shares
  pub was : old ≡ Some (before ++ last ∷ [])
  pub is : new ≡ Some (before ++ last ∷ since)
  pub stood : Contains (last ∷ since) c

-- what is seen in a call, each place at a moment of its own
abbrev pub IsSeenAmid : History → History → Shares → Type 0
IsSeenAmid old new view = (key : ShareKey) → (c : Shares) × StoodAmid old new c × (get view key ≡ get c key)

-- this is said of something that is seen in a call
abbrev pub SeesAmid : History → History → (Shares → Type 0) → Type 0
SeesAmid old new Says = (view : Shares) × IsSeenAmid old new view × Says view

-- a store that others change is one still, and what it told stays
abbrev pub TellsOn : {S : Type 0} → (S → Bool) → (S → History) → S → S → Type 0
TellsOn honest history old new = IsShared (honest old) (history old) → IsShared (honest new) (history new) × GoesOnBy (λ _. Unit {0}) (history old) (history new)
