-- What the stores tell of a call: what a crash in it might have left.
use Rattle.std.specs.Prelude.{◌≡◌, ◌⊎◌, ℕ}
use Rattle.std.specs.FinMap.{get}
use Rattle.share_store.specs.Shares.{Shares, ShareKey}
use Rattle.share_store.specs.History.{GoesOnBy}
use Rattle.grid.specs.Standing.{Standing}
use Rattle.grid.specs.GridState.{GridState, stood, history_at}

-- in a server's store there is, at each place, what one of these has there
abbrev pub IsBetween : Standing → Standing → ℕ → Shares → Type 0
IsBetween before after server m = (key : ShareKey) → (get m key ≡ before server key) ⊎ (get m key ≡ after server key)

-- What a crash in the call might have left, at each place of each server, is what stood there before, or what the call
-- was to leave.
abbrev pub TellsOfChange : Standing → GridState → GridState → Type 0
TellsOfChange asked old new = (s : ℕ) → GoesOnBy (IsBetween (stood old) asked s) (history_at old s) (history_at new s)
