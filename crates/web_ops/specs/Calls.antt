-- What a call answers and leaves, in one record; for private clauses.
use Rattle.std.specs.Prelude.{◌≡◌, ⊤, List, Option, Result, IfOk, OnOk, IfSome}
use Rattle.std.specs.declared.alloc.AllocError.{AllocError}
use Rattle.erasure.specs.Code.{AreBytes}
use Rattle.grid.specs.GridState.{GridState, stood, IsHonest, NoneFailed}
use Rattle.grid.specs.Leaves.{Leaves, IsUnchanged}
use Rattle.grid.specs.Views.{AllTell, TellOn, StandStill}
use Rattle.chk_file.specs.Cached.{CacheEntry}
use Rattle.chk_file.specs.Amid.{AreKeptSeen}
use Rattle.chk_file.specs.Look.{Look, look_in}
use Rattle.chk_file.specs.Upload.{Upload}
use Rattle.web_request.specs.declared.request.Request.{Request}
use Rattle.web_replies.specs.declared.reply.Reply.{Reply}
use Rattle.web_ops.specs.Encoding.{Encoding}
use Rattle.web_ops.specs.Uploads.{upload_in}
use Rattle.web_ops.specs.Answers.{request_reply}
use Rattle.web_ops.specs.Replied.{IsReply}
use Rattle.web_ops.specs.Changes.{HasRoomFor, IsStoredIn, IsBegunIn, TellsOfIn, Follows}

-- A call that stores nothing: a reply fits over any stores, and over honest ones that don't fail, where what is kept of
-- files is fresh, it is what a look at them says.
pub record IsFound (Fresh : Type 0) (Fits : Reply → Type 0) (says : Look → Reply) (result : Result Reply AllocError) (old new : GridState) : Type 0 where
  pub leaves : Leaves old new
  pub unchanged : IsHonest old → IsUnchanged old new
  pub fits : IfOk result Fits
  pub written : Fresh → IsHonest old → NoneFailed old new → IfOk result (λ reply. reply ≡ says (look_in (stood old)))

-- The same call over stores that are honest, or changed by others too: what it answers follows from what it saw, and so does what it adds to the
-- cache; what is stored in the honest stores stays, and no store forgets what it told.
pub record IsFoundAmid (Says : Reply → Type 0) (result : Result Reply AllocError) (cache kept : List CacheEntry) (old new : GridState) : Type 0 where
  pub told : TellOn old new
  pub stand_still : StandStill old new
  pub kept_seen : AllTell old → AreKeptSeen cache kept old new
  pub seen : AllTell old → IfOk result Says

-- A call that stores an upload, or none.
pub record IsCarriedOut (Fresh : Type 0) (upload : Option Upload) (Fits : Reply → Type 0) (says : Look → Reply) (result : Result Reply AllocError) (old new : GridState) : Type 0 where
  pub leaves : Leaves old new
  pub fits : IfOk result Fits
  pub bytes : OnOk result (IfSome upload (λ u. AreBytes u.bytes))
  pub begun : IsHonest old → IsBegunIn upload old new
  pub tells : IfOk result (λ reply. TellsOfIn upload reply old new)
  pub written : Fresh → IsHonest old → HasRoomFor old upload → NoneFailed old new → IfOk result (λ reply. reply ≡ says (look_in (stood old)))
  pub stored : IsHonest old → HasRoomFor old upload → NoneFailed old new → OnOk result (IsStoredIn upload old new)
  pub world : IsHonest old → HasRoomFor old upload → NoneFailed old new → OnOk result (Follows upload old new)

-- a request
abbrev pub IsRequestCall : Type 0 → Encoding → Request → Result Reply AllocError → GridState → GridState → Type 0
IsRequestCall Fresh e request result old new = IsCarriedOut Fresh (upload_in e request) (IsReply e request) (λ look. request_reply e look request) result old new

-- a request that reads no file
abbrev pub IsPerformed : Encoding → Request → Result Reply AllocError → GridState → GridState → Type 0
IsPerformed e request result old new = IsRequestCall ⊤ e request result old new
