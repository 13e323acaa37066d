-- What a request is answered over any stores, honest or not.
use Rattle.std.specs.Prelude.{◌≡◌, ◌⊎◌, ℕ, List, length, Bool, true, false, ◌&&◌, ◌==◌, not, Option, Some, None}
use Rattle.caps.specs.declared.cap.Cap.{Cap}
use Rattle.caps.specs.declared.cap.Cap.TheVariants.{Chk, Lit, DirChk, DirLit, ChkVerify, DirChkVerify}
use Rattle.caps.specs.declared.cap.VerifyCap.{VerifyCap}
use Rattle.caps.specs.Fields.{ReadValue, VerifyValue}
use Rattle.caps.specs.Weakening.{verify_fields, weakened}
use Rattle.dir_codec.specs.declared.entry.Entry.{Entry}
use Rattle.children_reader.specs.Children.{made}
use Rattle.file_shares.specs.Bound.{Bound}
use Rattle.file_shares.specs.Check.{HealthValue}
use Rattle.chk_file.specs.Upload.{upload_cap}
use Rattle.path_walk.specs.Way.{NamesLeadTo, WalkStops}
use Rattle.path_walk.specs.declared.fault.WalkFault.{WalkFault}
use Rattle.json_view.specs.Nodes.{file_text}
use Rattle.health_json.specs.Checks.{literal_check_text}
use Rattle.web_request.specs.declared.request.Request.{Request}
use Rattle.web_request.specs.declared.request.Request.TheVariants.{Put, Mkdir, Get, Check}
use Rattle.web_replies.specs.declared.reply.Reply.{Reply}
use Rattle.web_ops.specs.Encoding.{Encoding, upload_of}
use Rattle.web_replies.specs.Replies.{cap_reply, json_reply, bytes_reply, not_readable, not_enough_shares, is_directory, bad_children, store_full, store_down}
use Rattle.web_ops.specs.Uploads.{directory_cap}
use Rattle.caps.specs.Kinds.{is_verify_cap}
use Rattle.web_ops.specs.Answers.{walk_reply, listing_reply, health_text, range_to_apply}

-- ---- uploads

-- the upload's cap, or that a store was full or down
abbrev pub IsPutReply : Cap → Reply → Type 0
IsPutReply cap reply = (reply ≡ cap_reply cap) ⊎ ((reply ≡ store_full) ⊎ (reply ≡ store_down))

abbrev pub IsMade : Encoding → Option (List Entry) → Reply → Type 0
IsMade e None reply = reply ≡ bad_children
IsMade e (Some entries) reply = IsPutReply (directory_cap e entries) reply

-- ---- GET and HEAD

-- the reply is what f makes of bytes that are bound to the fields
pub record GivesBound (f : List ℕ → Reply) (fields : ReadValue) (reply : Reply) : Type 0 where
  pub bytes : List ℕ
  pub bound : Bound fields bytes
  pub is : reply ≡ f bytes

-- or that there are too few shares
abbrev pub MayGive : (List ℕ → Reply) → ReadValue → Reply → Type 0
MayGive f fields reply = (reply ≡ not_enough_shares) ⊎ GivesBound f fields reply

abbrev pub IsContent : Option (List ℕ) → Cap → Reply → Type 0
IsContent range (Chk fields) reply = MayGive (bytes_reply (Some (verify_fields fields)) range) fields reply
IsContent range (Lit bytes) reply = reply ≡ bytes_reply None range bytes
IsContent range (DirChk fields) reply = reply ≡ is_directory
IsContent range (DirLit bytes) reply = reply ≡ is_directory
IsContent range (ChkVerify fields) reply = reply ≡ not_readable
IsContent range (DirChkVerify fields) reply = reply ≡ not_readable

abbrev pub IsNodeJson : Cap → Reply → Type 0
IsNodeJson (Chk fields) reply = reply ≡ json_reply (file_text (Chk fields))
IsNodeJson (Lit bytes) reply = reply ≡ json_reply (file_text (Lit bytes))
IsNodeJson (DirChk fields) reply = MayGive (listing_reply (DirChk fields)) fields reply
IsNodeJson (DirLit bytes) reply = reply ≡ listing_reply (DirLit bytes) bytes
IsNodeJson (ChkVerify fields) reply = reply ≡ not_readable
IsNodeJson (DirChkVerify fields) reply = reply ≡ not_readable

abbrev pub IsNode : Bool → Option (List ℕ) → Cap → Reply → Type 0
IsNode true range cap reply = IsNodeJson cap reply
IsNode false range cap reply = IsContent range cap reply

-- The names lead to an end where this is answered, or stop with a fault: each directory on the way is the children of
-- bytes that are bound to the cap that led there, or stand in it.
abbrev pub IsAtEnd : (Cap → Reply → Type 0) → Cap → List (List ℕ) → Reply → Type 0
IsAtEnd Is cap names reply =
    ((end : Cap) × (NamesLeadTo cap names end × Is end reply)) ⊎ ((fault : WalkFault) × (WalkStops cap names fault × (reply ≡ walk_reply fault)))

-- where the cap leads nowhere
abbrev pub IsAnsweredFrom : Bool → (Cap → Reply → Type 0) → Cap → List (List ℕ) → Reply → Type 0
IsAnsweredFrom true Is cap names reply = reply ≡ not_readable
IsAnsweredFrom false Is cap names reply = IsAtEnd Is cap names reply

-- ---- checks

-- what a check of some shares is answered
pub record IsHealthOf (mapped : Bool) (v : VerifyValue) (reply : Reply) : Type 0 where
  pub health : HealthValue
  pub needed : health.needed ≡ v.k
  pub expected : health.expected ≡ v.n
  pub is : reply ≡ json_reply (health_text mapped v.si health)

abbrev pub IsHealth : Bool → Option VerifyCap → Reply → Type 0
IsHealth mapped None reply = reply ≡ json_reply literal_check_text
IsHealth mapped (Some v) reply = IsHealthOf mapped v.fields reply

-- ---- requests

abbrev pub IsReply : Encoding → Request → Reply → Type 0
IsReply e (Put bytes) reply = IsPutReply (upload_cap (upload_of e bytes)) reply
IsReply e (Mkdir json) reply = IsMade e (made json) reply
IsReply e (Get cap names json head_only range) reply = IsAnsweredFrom (is_verify_cap cap) (IsNode json (range_to_apply head_only range)) cap names reply
IsReply e (Check cap names verify) reply =
    IsAnsweredFrom (is_verify_cap cap && not (length names == 0)) (λ end. IsHealth e.mapped (weakened end)) cap names reply
