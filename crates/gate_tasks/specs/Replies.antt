-- Which replies commands get, by what was called before.
use Rattle.std.specs.Prelude.{◌≡◌, ℕ, ◌+◌, ◌&&◌, not, nat_le, nat_lt, ◌⊎◌, List, [], ◌∷◌, ◌++◌, length, take, drop, replicate, ⊤, Bool, false, is_some, unwrap_or, if◌then◌else◌, Option, Some, None}
use Rattle.grid.specs.declared.fault.GridFault.TheVariants.{NoServer, BadImage, Full}
use Rattle.grid.specs.GridState.{GridState}
use Rattle.grid.specs.Stamps.{never_raised}
use Rattle.grid.specs.Refusals.{IsReadRefusal}
use Rattle.share_store.specs.Shares.{Shares, bytes_of as size_of}
use Rattle.grid.specs.Standing.{standing, at_server as in_store}
use Rattle.grid.specs.Rows.{rows_of}
use Rattle.grid.specs.Image.{image, refused_place}
use Rattle.grid.specs.ImageLaws.{CanBeWritten}
use Rattle.grid.specs.declared.image_layout.Layout.TheVariants.{VersionTwo}
use Rattle.grid.specs.ImageReading.{image_said}
use Rattle.chk_file.specs.Marks.{shown}
use Rattle.chk_file.specs.World.{World, empty}
use Rattle.chk_file.specs.Look.{by_fit}
use Rattle.gate_core.specs.Settings.{GatewaySettings}
use Rattle.gate_core.specs.Events.{Event, Open, Bytes, End, Take, Lose, Spoil, is_known, has_ended, handed}
use Rattle.gate_core.specs.Items.{Entry, items}
use Rattle.gate_core.specs.Runs.{world_after, said_by, said}
use Rattle.gate_core.specs.Reach.{only_caller, kept}
use Rattle.gate_core.specs.Uploaded.{IsLeftBy}
use Rattle.gate_core.specs.Apart.{Apart}
use Rattle.gate_core.specs.Came.{Opening, IsRoomy}
use Rattle.gate_core.specs.Restored.{IsFilledAt}
use Rattle.gate_tasks.specs.Stores.{fresh}
use Rattle.gate_core.specs.declared.fault.GatewayFault.TheVariants.{Known, NotOpen, BadParameters}
use Rattle.gate_tasks.specs.declared.command.Command.{Command}
use Rattle.gate_tasks.specs.declared.command.Command.TheVariants as command
use Rattle.gate_tasks.specs.declared.command.Call.{Call}
use Rattle.gate_tasks.specs.declared.command.Call.TheVariants as call
use Rattle.gate_tasks.specs.declared.command.Grid.{Grid}
use Rattle.gate_tasks.specs.declared.reply.Reply.{Reply}
use Rattle.gate_tasks.specs.declared.reply.Reply.TheVariants.{Done, Refused, GridRefused, Given, Imaged, Answered}
use Rattle.gate_tasks.specs.Script.{Step}

-- ---- a run

-- a call, and what it was answered
pub record CallStep : Type 0 where
  pub call : Call
  pub reply : Reply

-- what the line `grid` sets a gateway up with
abbrev pub settings_by : Grid → GatewaySettings
settings_by grid = record { k = grid.k; n = grid.n; secret = grid.secret; servers = grid.servers; pages = []; for_browsers = false }

-- a gateway has these parameters
abbrev pub are_parameters : Grid → Bool
are_parameters grid = nat_le 1 grid.k && nat_le grid.k grid.n && nat_le grid.n 256 && nat_le 1 grid.servers && nat_le grid.servers 256 && nat_le (length grid.secret) 256

-- nothing stands, and each store has ROOM
abbrev pub room_of : Grid → ℕ → ℕ
room_of grid server = if nat_lt server grid.servers then grid.room else 0

abbrev pub opening_by : Grid → Opening
opening_by grid = record { world = empty; rooms = room_of grid }

-- An image brought what stands: it is that of stores, one for each server, in which stands what stands in this world, and of
-- each store the room that is left and the bytes that stand there are together ROOM.
pub record IsOpenedBy (grid : Grid) (bytes : List ℕ) (opening : Opening) : Type 0 where
  pub maps : List Shares
  pub servers : length maps ≡ grid.servers
  pub stand : standing maps ≡ shown opening.world.marks
  pub rows : rows_of maps ≡ (image_said grid.servers bytes).rows
  pub room : (server : ℕ) → opening.rooms server + in_store size_of maps server ≡ room_of grid server

-- what stands before the first call, where this is the command after `grid`
abbrev pub IsOpenedWith : Grid → Command → Opening → Type 0
IsOpenedWith grid (command.Restore bytes) opening = IsOpenedBy grid bytes opening
IsOpenedWith grid _ opening = opening ≡ opening_by grid

-- the stores have the room for what these calls bring
abbrev pub IsCalm : Grid → Opening → List Event → Type 0
IsCalm grid opening events = IsRoomy (settings_by grid) opening events

-- what stands after these calls
abbrev pub world_by : Grid → Opening → List Event → World
world_by grid opening events = world_after (settings_by grid) opening.world (items events)

-- ---- replies

-- a connection was opened, and its end did not come
abbrev pub is_going : ℕ → List Event → Bool
is_going id events = is_known id events && not (has_ended id events)

-- what a caller is to be told and was not given yet, where caps give what verification finds
abbrev pub unsaid : Grid → Opening → ℕ → List Event → List ℕ
unsaid grid opening id events = drop (length (handed id events)) (said_by by_fit (settings_by grid) id opening.world (items events))

-- what of the written answers to the items that are kept for a caller it was not given yet
abbrev pub unsaid_of_kept : Grid → Opening → ℕ → List Event → List ℕ
unsaid_of_kept grid opening id events =
    drop (length (handed id events)) (said (settings_by grid) id opening.world (kept (settings_by grid) (only_caller id) opening.world (items events)))

-- the items of a run left what stood at first, and no two strings collide that are hashed in this caller's part
pub record IsApart (grid : Grid) (opening : Opening) (id : ℕ) (events : List Event) : Type 0 where
  pub past : List Entry
  pub left : IsLeftBy (settings_by grid) past opening.world
  pub apart : Apart (settings_by grid) (only_caller id) past opening.world (items events)

-- the first of these bytes, where the connection was opened
abbrev pub first_bytes_reply : ℕ → List Event → ℕ → List ℕ → Reply
first_bytes_reply id events most bytes = if is_known id events then Given (take most bytes) else Refused NotOpen

-- The reply to `take` has the next bytes that its caller is to be told: what verification finds in the whole run, and where
-- no two strings of this caller's part collide what the written answers say when the requests of others are dropped, save
-- uploads under a storage index that it met.
pub record IsTakeReply (grid : Grid) (opening : Opening) (events : List Event) (id most : ℕ) (reply : Reply) : Type 0 where
  pub verified : reply ≡ first_bytes_reply id events most (unsaid grid opening id events)
  pub isolated : IsApart grid opening id events → reply ≡ first_bytes_reply id events most (unsaid_of_kept grid opening id events)

-- at a server that there is
abbrev pub if_server : Grid → ℕ → Bool → Reply
if_server grid server answer = if nat_lt server grid.servers then Answered answer else GridRefused NoServer

-- these bytes are the image of stores, one for each server, in which stands what stands after these calls
pub record IsImageAfter (grid : Grid) (opening : Opening) (events : List Event) (bytes : List ℕ) : Type 0 where
  pub maps : List Shares
  pub servers : length maps ≡ grid.servers
  pub stand : standing maps ≡ shown (world_by grid opening events).marks
  pub is : bytes ≡ image grid.servers (rows_of maps)
  pub whole : CanBeWritten VersionTwo grid.servers (rows_of maps)

-- No image holds what stands after these calls at stores, one for each server: this is the place of the first field that
-- an image would have for it and can't.
pub record IsNoImageAfter (grid : Grid) (opening : Opening) (events : List Event) (place : ℕ) : Type 0 where
  pub maps : List Shares
  pub servers : length maps ≡ grid.servers
  pub stand : standing maps ≡ shown (world_by grid opening events).marks
  pub refused : refused_place (rows_of maps) ≡ Some place

-- an image of what stands, or `BadImage` where no image holds it: nothing else keeps it from being written
abbrev pub IsImageReply : Grid → Opening → List Event → Reply → Type 0
IsImageReply grid opening events reply =
    ((bytes : List ℕ) × (reply ≡ Imaged bytes) × IsImageAfter grid opening events bytes) ⊎
    ((place : ℕ) × (reply ≡ GridRefused (BadImage place)) × IsNoImageAfter grid opening events place)

-- why a secret is not taken: it is too long
abbrev pub opened_reply : Option (List ℕ) → Reply
opened_reply secret = if nat_lt 256 (length (unwrap_or secret [])) then Refused BadParameters else Done

-- the reply to a call after these calls
abbrev pub IsScriptReply : Grid → Opening → List Event → Call → Reply → Type 0
IsScriptReply grid opening events (call.Open id secret) reply = reply ≡ (if is_known id events then Refused Known else opened_reply secret)
IsScriptReply grid opening events (call.Bytes id piece) reply = reply ≡ (if is_going id events then Done else Refused NotOpen)
IsScriptReply grid opening events (call.End id) reply = reply ≡ (if is_going id events then Done else Refused NotOpen)
IsScriptReply grid opening events (call.Take id most) reply = IsTakeReply grid opening events id most reply
IsScriptReply grid opening events (call.Lose share) reply =
    reply ≡ if_server grid share.server (is_some (shown (world_by grid opening events).marks share.server (share.index, share.number)))
IsScriptReply grid opening events (call.Spoil share place) reply =
    reply ≡ if_server grid share.server (nat_lt place (length (unwrap_or (shown (world_by grid opening events).marks share.server (share.index, share.number)) [])))
IsScriptReply grid opening events call.Image reply = IsImageReply grid opening events reply

-- the event of a call that gave these bytes: a connection without a secret of its own takes the gateway's
abbrev pub event_of : Grid → Call → List ℕ → List Event
event_of own (call.Open id secret) given = Open id (unwrap_or secret own.secret) ∷ []
event_of own (call.Bytes id piece) given = Bytes id piece ∷ []
event_of own (call.End id) given = End id ∷ []
event_of own (call.Take id most) given = Take id given ∷ []
event_of own (call.Lose share) given = Lose share.server (share.index, share.number) ∷ []
event_of own (call.Spoil share place) given = Spoil share.server (share.index, share.number) place ∷ []
event_of own call.Image given = []

-- the event of a call with this reply: a refused one is none
abbrev pub event_by : Grid → Call → Reply → List Event
event_by own asked Done = event_of own asked []
event_by own asked (Refused fault) = []
event_by own asked (GridRefused fault) = []
event_by own asked (Given given) = event_of own asked given
event_by own asked (Imaged image) = []
event_by own asked (Answered answer) = event_of own asked []

-- for private clauses
abbrev pub events_of : Grid → List CallStep → List Event
events_of grid [] = []
events_of grid (step ∷ calls) = event_by grid step.call step.reply ++ events_of grid calls

-- Each of these calls, after these events, is answered as the calls so far say, where the stores have the room for what
-- those bring. What this call and later ones bring is no premise of its reply.
abbrev pub AreReplies : Grid → Opening → List Event → List CallStep → Type 0
AreReplies grid opening events [] = ⊤
AreReplies grid opening events (step ∷ calls) =
    (IsCalm grid opening events → IsScriptReply grid opening events step.call step.reply) × AreReplies grid opening (events ++ event_by grid step.call step.reply) calls

-- ---- all steps

-- the reply to `restore` is that it was done, or that the image or the parameters were refused
abbrev pub IsRestoreAnswer : Reply → Type 0
IsRestoreAnswer Done = ⊤
IsRestoreAnswer (Refused fault) = fault ≡ BadParameters
IsRestoreAnswer (GridRefused fault) = IsReadRefusal fault
IsRestoreAnswer (Given bytes) = ⊥
IsRestoreAnswer (Imaged bytes) = ⊥
IsRestoreAnswer (Answered answer) = ⊥

-- the stores that an image is restored into: each has ROOM, and nothing stands
abbrev pub empty_stores : Grid → GridState
empty_stores grid = record { stores = replicate grid.servers (fresh grid.room); stamps = never_raised }

-- An image is restored only where it is one of stores for so many servers, and called bad only where it is not: at the place of
-- its first fault. A server is called full only where the next share was longer than the room that it had left.
pub record IsRestoreReply (grid : Grid) (bytes : List ℕ) (reply : Reply) : Type 0 where
  pub answer : IsRestoreAnswer reply
  pub done : reply ≡ Done → (image_said grid.servers bytes).fault ≡ None
  pub bad : (place : ℕ) → reply ≡ GridRefused (BadImage place) → (image_said grid.servers bytes).fault ≡ Some place
  pub full : (server : ℕ) → reply ≡ GridRefused (Full server) → IsFilledAt (empty_stores grid) grid.servers (Some bytes) server

-- the reply to the command after `grid`, where it restores an image
abbrev pub IsFirstReply : Grid → Command → Reply → Type 0
IsFirstReply grid (command.Restore bytes) reply = IsRestoreReply grid bytes reply
IsFirstReply grid _ reply = ⊤

abbrev pub BeginsWell : Grid → List Step → Type 0
BeginsWell grid [] = ⊤
BeginsWell grid (step ∷ log) = IsFirstReply grid step.command step.reply

-- what stands before the first call, after `grid` and what follows it
abbrev pub IsOpening : Grid → List Step → Opening → Type 0
IsOpening grid [] opening = opening ≡ opening_by grid
IsOpening grid (step ∷ log) opening = IsOpenedWith grid step.command opening

-- the calls among the steps after `grid`: all of them, or all but the first where it restores an image (`may_stand`)
abbrev pub call_of : Command → Reply → List CallStep
call_of (command.Call asked) reply = record { call = asked; reply = reply } ∷ []
call_of _ reply = []

abbrev pub calls_in : List Step → List CallStep
calls_in [] = []
calls_in (step ∷ log) = call_of step.command step.reply ++ calls_in log

-- After the line `grid` and its answer: an image is restored or called bad for cause, and from what stands then, be it nothing
-- or what the image brought, the written answers decide each reply before which the stores had the room.
pub record IsToldAfter (grid : Grid) (reply : Reply) (log : List Step) : Type 0 where
  pub made : reply ≡ (if are_parameters grid then Done else Refused BadParameters)
  pub restored : BeginsWell grid log
  pub replies : (opening : Opening) → IsOpening grid log opening → AreReplies grid opening [] (calls_in log)

abbrev pub IsToldFrom : Command → Reply → List Step → Type 0
IsToldFrom (command.Grid grid) reply log = IsToldAfter grid reply log
IsToldFrom _ reply log = ⊥

-- the steps of a run, of which the first is `grid`
abbrev pub AreTold : List Step → Type 0
AreTold [] = ⊤
AreTold (step ∷ log) = IsToldFrom step.command step.reply log
