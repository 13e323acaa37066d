-- What a request leaves of honest stores.
use Rattle.std.specs.Prelude.{◌≡◌, ◌<◌, ⊤, ℕ, take, length, Option, Some, None}
use Rattle.grid.specs.declared.fault.GridFault.TheVariants.{Full, Down}
use Rattle.grid.specs.GridState.{GridState, stood, failures_at, IsHonest}
use Rattle.grid.specs.Leaves.{IsUnchanged}
use Rattle.grid.specs.NewBytes.{HasRoom}
use Rattle.grid.specs.Changed.{ArePut, PutStopsAt}
use Rattle.grid.specs.Histories.{TellsOfChange}
use Rattle.grid.specs.Placement.{placed}
use Rattle.grid.specs.Views.{AllTell}
use Rattle.chk_file.specs.AllStand.{AllStand, AllStoodAmid}
use Rattle.chk_file.specs.Upload.{Upload, index, shares_of}
use Rattle.chk_file.specs.Marks.{shown}
use Rattle.chk_file.specs.World.{World}
use Rattle.web_replies.specs.declared.reply.Reply.{Reply}
use Rattle.web_replies.specs.declared.reply.Status.TheVariants as status
use Rattle.web_replies.specs.Replies.{store_full, store_down}
use Rattle.web_ops.specs.Uploads.{after_stored}

-- the stores have room for the shares of an upload, if there is one
abbrev pub HasRoomFor : GridState → Option Upload → Type 0
HasRoomFor grid None = ⊤
HasRoomFor grid (Some u) = HasRoom grid (index u) (shares_of u)

-- the shares of an upload were put, each where none stood; without one the same shares stand
abbrev pub IsStoredIn : Option Upload → GridState → GridState → Type 0
IsStoredIn None old new = IsUnchanged old new
IsStoredIn (Some u) old new = ArePut (index u) (shares_of u) old new

-- What the stores tell of an upload: a crash in it leaves at each place what stood there, or the share that goes there.
abbrev pub TellsOfUpload : Upload → GridState → GridState → Type 0
TellsOfUpload u old new = TellsOfChange (placed (length old.stores) (index u) (shares_of u) (stood old)) old new

-- the first of them, in the order of their numbers, and a crash on the way leaves no other
pub record IsUploadBegun (u : Upload) (old new : GridState) : Type 0 where
  pub servers : length new.stores ≡ length old.stores
  pub m : ℕ
  pub put : ArePut (index u) (take m (shares_of u)) old new
  pub history : TellsOfUpload u old new

-- the same, if there is an upload
abbrev pub IsBegunIn : Option Upload → GridState → GridState → Type 0
IsBegunIn None old new = IsUnchanged old new
IsBegunIn (Some u) old new = IsUploadBegun u old new

-- whatever world stood, the one after what was stored stands
abbrev pub Follows : Option Upload → GridState → GridState → Type 0
Follows o old new = (w : World) → stood old ≡ shown w.marks → stood new ≡ shown (after_stored (length old.stores) o w).marks

-- a store failed in an upload, which stopped there
pub record IsDownAt (u : Upload) (old new : GridState) (server : ℕ) : Type 0 where
  pub stops : PutStopsAt (index u) (shares_of u) old new (Down server)
  pub failed : failures_at old server < failures_at new server

-- What the reply to an upload tells of the stores. 200: over honest ones, however full or failing, a share of each number
-- stands at its server; over stores that others change too, one stood there at some moment of the call. `store full`: a
-- store had no room for a share of which none stood there. `store down`: one failed.
pub record TellsOf (u : Upload) (reply : Reply) (old new : GridState) : Type 0 where
  pub all_stand : IsHonest old → reply.status ≡ status.Ok → AllStand u old new
  pub all_stood : AllTell old → reply.status ≡ status.Ok → AllStoodAmid u old new
  pub full : reply ≡ store_full → (server : ℕ) × PutStopsAt (index u) (shares_of u) old new (Full server)
  pub down : reply ≡ store_down → (server : ℕ) × IsDownAt u old new server

-- the same, if there is an upload
abbrev pub TellsOfIn : Option Upload → Reply → GridState → GridState → Type 0
TellsOfIn None reply old new = ⊤
TellsOfIn (Some u) reply old new = TellsOf u reply old new
