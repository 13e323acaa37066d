-- What a server begins with.
use Rattle.std.specs.Prelude.{ℕ, false, List, [], replicate}
use Rattle.std.specs.FinMap as finite
use Rattle.grid.specs.Stamps.{never_raised}
use Rattle.gate_core.specs.ConnectionState.{State}
use Rattle.gate_base.specs.Tallies.{nothing_counted}
use Rattle.gate_tasks.specs.Stores.{fresh}

-- for how many bytes each of its stores has room
abbrev pub server_room : ℕ
server_room = 1073741824

-- Its gateway under a secret: any 3 of a file's 10 shares give it back, and they stand on five stores. Nothing was
-- called yet, nothing stands, and no reply was made.
abbrev pub set_up_with : List ℕ → State
set_up_with secret = record {
  settings = record { k = 3; n = 10; secret = secret; servers = 5; pages = []; for_browsers = false };
  connections = finite.empty;
  grid = record { stores = replicate 5 (fresh server_room); stamps = never_raised };
  tally = nothing_counted;
}
