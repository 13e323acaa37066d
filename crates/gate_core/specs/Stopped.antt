-- What stands where memory ran out while items were answered.
use Rattle.std.specs.Prelude.{◌≡◌, ℕ, List, take, Option, Some, None, slice_get}
use Rattle.http_edge.specs.declared.item.Item.{Item}
use Rattle.http_edge.specs.FramingState.{frame_from}
use Rattle.grid.specs.GridState.{GridState, IsHonest}
use Rattle.grid.specs.Leaves.{Leaves}
use Rattle.chk_file.specs.Upload.{Upload}
use Rattle.web_ops.specs.Changes.{IsBegunIn}
use Rattle.gate_base.specs.declared.tally.Tally.{Tally}
use Rattle.gate_core.specs.Settings.{GatewaySettings, under}
use Rattle.gate_core.specs.Runs.{upload_by}
use Rattle.gate_core.specs.ConnectionState.{ConnectionState, State, secret_at}
use Rattle.gate_core.specs.AfterCall.{with_held, with_grid, with_tally, cut_state}
use Rattle.gate_core.specs.Served.{AreServed}
use Rattle.gate_base.specs.Tallies.{AreTallied}

-- the upload of an item, where there is one
abbrev pub upload_at : GatewaySettings → Option Item → Option Upload
upload_at settings None = None
upload_at settings (Some item) = upload_by settings item

-- Memory ran out while items were answered under a secret: so many of them were answered before, and left the stores as they
-- do, and of the replies to these, and no other, the statuses were counted. Over honest stores a beginning of the next one's
-- upload stands besides, in the order of its shares' numbers, and nothing else changed; where there is no next item, or it
-- uploads nothing, nothing changed.
pub record IsStoppedByMemory (settings : GatewaySettings) (secret : List ℕ) (items : List Item) (old new : GridState) (before after : Tally) : Type 0 where
  pub done : ℕ
  pub output : List ℕ
  pub middle : GridState
  pub served : AreServed settings secret (take done items) output old middle
  pub tallied : AreTallied (take done items) output before after
  pub leaves : Leaves middle new
  pub begun : IsHonest old → IsBegunIn (upload_at (under settings secret) (slice_get items done)) middle new

-- Memory ran out where a piece came on a connection: it stopped at one of the items that the piece completes. Of the
-- connection nothing is left, and all but the stores and the tally is as it was.
pub record IsCutShort (old new : State) (id : ℕ) (before : ConnectionState) (piece : List ℕ) : Type 0 where
  pub left : new ≡ with_tally (with_grid (with_held old id cut_state) new.grid) new.tally
  pub stopped : IsStoppedByMemory old.settings (secret_at old.settings before) (frame_from before.conn piece) old.grid new.grid old.tally new.tally
