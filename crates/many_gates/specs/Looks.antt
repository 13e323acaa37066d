-- What a call sees of stores that many gateways change.
use Rattle.std.specs.Prelude.{◌≡◌, ℕ, IsTrue, List, take, Some, None, slice_get}
use Rattle.std.specs.FinMap.{get}
use Rattle.share_store.specs.Shares.{Shares, ShareKey}
use Rattle.share_store.specs.Shared.{StoodAmid}
use Rattle.grid.specs.Standing.{Standing}
use Rattle.grid.specs.GridState.{StoreState, GridState}
use Rattle.gate_core.specs.Settings.{GatewaySettings}
use Rattle.many_gates.specs.Changes.{Change, all_changed}

-- At each moment of a call there stood in the store of a server what some of the changes that were made meanwhile had left. In
-- an honest store, which nobody else changes, there stands what stood before.
pub record IsChangedBy (settings : GatewaySettings) (changes : List Change) (before : Standing) (s : ℕ) (old new : StoreState) : Type 0 where
  pub honest : IsTrue old.honest → (q : ShareKey) → get old.shares q ≡ before s q
  pub shared : (c : Shares) → StoodAmid old.history new.history c → (k : ℕ) × ((q : ShareKey) → get c q ≡ all_changed settings (take k changes) before s q)

-- so it is at each server, and nothing stands where there is none
pub record AreChangedBy (settings : GatewaySettings) (changes : List Change) (before : Standing) (old new : GridState) : Type 0 where
  pub each : (s : ℕ) (t u : StoreState) → slice_get old.stores s ≡ Some t → slice_get new.stores s ≡ Some u → IsChangedBy settings changes before s t u
  pub none : (s : ℕ) → slice_get old.stores s ≡ None → (q : ShareKey) → before s q ≡ None
