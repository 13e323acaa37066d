-- What a crash in a call of a gateway left at its servers.
use Rattle.std.specs.Prelude.{◌≡◌, ◌⊎◌, ℕ, List, ◌++◌, Some, Contains}
use Rattle.std.specs.FinMap.{get}
use Rattle.share_store.specs.Shares.{Shares, ShareKey}
use Rattle.grid.specs.Standing.{Standing}
use Rattle.grid.specs.GridState.{GridState, stood, history_at}

-- at one server: what stood there before the call, what stands there after it, or one of those that its store tells of it
abbrev pub WasLeft : GridState → GridState → Standing → ℕ → Type 0
WasLeft old new d s =
    ((key : ShareKey) → d s key ≡ stood old s key)
    ⊎ (((key : ShareKey) → d s key ≡ stood new s key)
    ⊎ ((before : List Shares) × ((more : List Shares) × ((c : Shares) ×
    ((history_at old s ≡ Some before) × ((history_at new s ≡ Some (before ++ more)) × (Contains more c × ((key : ShareKey) → d s key ≡ get c key))))))))

-- at every one, each at a moment of its own
abbrev pub AreLeftIn : GridState → GridState → Standing → Type 0
AreLeftIn old new d = (s : ℕ) → WasLeft old new d s
