-- What a request that reads is answered over stores that others change, each read for itself.
use Rattle.std.specs.Prelude.{◌≡◌, ⊤, ℕ, List, length, Bool, true, false, ◌&&◌, ◌==◌, not, Option, Some, None, IfSome, Result, Ok, Err}
use Rattle.grid.specs.GridState.{GridState}
use Rattle.caps.specs.declared.cap.Cap.{Cap}
use Rattle.caps.specs.declared.cap.Cap.TheVariants.{Chk, Lit, DirChk, DirLit, ChkVerify, DirChkVerify}
use Rattle.caps.specs.declared.cap.VerifyCap.{VerifyCap}
use Rattle.caps.specs.Fields.{ReadValue}
use Rattle.caps.specs.Kinds.{is_verify_cap}
use Rattle.caps.specs.Weakening.{weakened}
use Rattle.chk_file.specs.Amid.{SeesReached}
use Rattle.file_shares.specs.Check.{check}
use Rattle.path_walk.specs.Walk.{FileLookup}
use Rattle.path_walk.specs.Amid.{WalksBy}
use Rattle.path_walk.specs.declared.fault.WalkFault.{WalkFault}
use Rattle.health_json.specs.Checks.{literal_check_text}
use Rattle.web_request.specs.declared.request.Request.{Request}
use Rattle.web_request.specs.declared.request.Request.TheVariants.{Put, Mkdir, Get, Check}
use Rattle.web_replies.specs.declared.reply.Reply.{Reply}
use Rattle.web_ops.specs.Encoding.{Encoding}
use Rattle.web_replies.specs.Replies.{json_reply, not_readable}
use Rattle.web_ops.specs.Answers.{walk_reply, node_reply, health_text, range_to_apply}

-- ---- at the end of a walk

-- the fields of what is read there: of a file for its bytes, of a directory for its JSON
abbrev pub fields_read : Bool → Cap → Option ReadValue
fields_read false (Chk fields) = Some fields
fields_read true (Chk fields) = None
fields_read json (Lit bytes) = None
fields_read false (DirChk fields) = None
fields_read true (DirChk fields) = Some fields
fields_read json (DirLit bytes) = None
fields_read json (ChkVerify fields) = None
fields_read json (DirChkVerify fields) = None

-- the bytes or the JSON, by a look of its own, which at the fields that are read gives what a read gives
pub record IsNodeBy (Given : ReadValue → Option (List ℕ) → Type 0) (json : Bool) (range : Option (List ℕ)) (cap : Cap) (reply : Reply) : Type 0 where
  pub gives : FileLookup
  pub given : IfSome (fields_read json cap) (λ f. Given f (gives f))
  pub is : reply ≡ node_reply gives json range cap

-- the health of a row that was reached of what the call saw; what stands in its cap is healthy
abbrev pub IsHealthAmid : GridState → GridState → Bool → Bool → Option VerifyCap → Reply → Type 0
IsHealthAmid old new mapped verify None reply = reply ≡ json_reply literal_check_text
IsHealthAmid old new mapped verify (Some v) reply =
    SeesReached old new v.fields.si (λ row. reply ≡ json_reply (health_text mapped v.fields.si (check v.fields verify row)))

-- ---- walks

-- this is answered where a walk ended, or its fault is told
abbrev pub IsEndReply : (Cap → Reply → Type 0) → Result Cap WalkFault → Reply → Type 0
IsEndReply Is (Ok end) reply = Is end reply
IsEndReply Is (Err fault) reply = reply ≡ walk_reply fault

-- the answer is that of a walk of which each step has a look of its own
pub record IsWalkReply (Given : ReadValue → Option (List ℕ) → Type 0) (Is : Cap → Reply → Type 0) (cap : Cap) (names : List (List ℕ)) (reply : Reply) : Type 0 where
  pub walk : Result Cap WalkFault
  pub walks : WalksBy Given cap names walk
  pub is : IsEndReply Is walk reply

-- where the cap leads nowhere
abbrev pub IsAnsweredBy : Bool → (ReadValue → Option (List ℕ) → Type 0) → (Cap → Reply → Type 0) → Cap → List (List ℕ) → Reply → Type 0
IsAnsweredBy true Given Is cap names reply = reply ≡ not_readable
IsAnsweredBy false Given Is cap names reply = IsWalkReply Given Is cap names reply

-- ---- requests

abbrev pub IsGetBy : (ReadValue → Option (List ℕ) → Type 0) → Cap → List (List ℕ) → Bool → Option (List ℕ) → Reply → Type 0
IsGetBy Given cap names json range reply = IsAnsweredBy (is_verify_cap cap) Given (IsNodeBy Given json range) cap names reply

abbrev pub IsCheckBy : (ReadValue → Option (List ℕ) → Type 0) → GridState → GridState → Bool → Cap → List (List ℕ) → Bool → Reply → Type 0
IsCheckBy Given old new mapped cap names verify reply =
    IsAnsweredBy (is_verify_cap cap && not (length names == 0)) Given (λ end. IsHealthAmid old new mapped verify (weakened end)) cap names reply

-- The reply follows from what each read of the call gave, and from what the call saw of the shares that it checked. Of an
-- upload nothing is read.
abbrev pub IsReplyBy : Encoding → (ReadValue → Option (List ℕ) → Type 0) → GridState → GridState → Request → Reply → Type 0
IsReplyBy e Given old new (Put bytes) reply = ⊤
IsReplyBy e Given old new (Mkdir json) reply = ⊤
IsReplyBy e Given old new (Get cap names json head_only range) reply = IsGetBy Given cap names json (range_to_apply head_only range) reply
IsReplyBy e Given old new (Check cap names verify) reply = IsCheckBy Given old new e.mapped cap names verify reply
