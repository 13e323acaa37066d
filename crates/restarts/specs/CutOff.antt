-- What stands after a crash, and the shares that it cost.
use Rattle.std.specs.Prelude.{◌≡◌, ◌⊎◌, ℕ, List, map}
use Rattle.share_store.specs.Shares.{ShareKey}
use Rattle.grid.specs.Standing.{Standing}
use Rattle.chk_file.specs.Marks.{shown}
use Rattle.chk_file.specs.World.{World}
use Rattle.gate_core.specs.Settings.{GatewaySettings}
use Rattle.gate_core.specs.Items.{Entry, Lost}
use Rattle.gate_core.specs.Runs.{after_entry}

-- a server, and a share there
abbrev pub SharePlace : Type 0
SharePlace = ℕ × ShareKey

-- these shares lost by the operator, one after the other
abbrev pub losses : List SharePlace → List Entry
losses places = map (λ p. Lost p.0 p.1) places

-- At each place there stands what stood before an item, or what stands after it: stores were changed share by share when
-- the crash came, and each change was done or not begun.
abbrev pub IsCutOff : GatewaySettings → World → Entry → Standing → Type 0
IsCutOff settings w x c = (s : ℕ) (q : ShareKey) → (c s q ≡ shown w.marks s q) ⊎ (c s q ≡ shown (after_entry settings x w).marks s q)
