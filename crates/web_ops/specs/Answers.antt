-- The written answers: what each request is answered, by what a look at the stores finds (Tahoe-LAFS's webapi document).
use Rattle.std.specs.Prelude.{ℕ, List, length, Bool, true, false, ◌&&◌, ◌==◌, not, if◌then◌else◌, Option, Some, None, Result, Ok, Err}
use Rattle.caps.specs.declared.cap.Cap.{Cap}
use Rattle.caps.specs.declared.cap.Cap.TheVariants.{Chk, Lit, DirChk, DirLit, ChkVerify, DirChkVerify}
use Rattle.caps.specs.declared.cap.VerifyCap.{VerifyCap}
use Rattle.caps.specs.Kinds.{is_verify_cap}
use Rattle.caps.specs.Weakening.{verify_fields, weakened}
use Rattle.dir_codec.specs.declared.entry.Entry.{Entry}
use Rattle.dir_codec.specs.Reading.{children}
use Rattle.children_reader.specs.Children.{made}
use Rattle.chk_file.specs.Upload.{upload_cap}
use Rattle.file_shares.specs.Check.{HealthValue, check}
use Rattle.chk_file.specs.Look.{Look}
use Rattle.path_walk.specs.Walk.{FileLookup, walked}
use Rattle.path_walk.specs.declared.fault.WalkFault.{WalkFault}
use Rattle.path_walk.specs.declared.fault.WalkFault.TheVariants.{NoChild, NotDirectory, NotEnoughShares, NoMemory}
use Rattle.json_view.specs.Nodes.{file_text, dir_text}
use Rattle.health_json.specs.Checks.{check_text, mapped_check_text, literal_check_text}
use Rattle.web_request.specs.declared.request.Request.{Request}
use Rattle.web_request.specs.declared.request.Request.TheVariants.{Put, Mkdir, Get, Check}
use Rattle.web_replies.specs.declared.reply.Reply.{Reply}
use Rattle.web_ops.specs.Encoding.{Encoding, upload_of}
use Rattle.web_replies.specs.Replies.{cap_reply, json_reply, bytes_reply, not_readable, no_child, not_directory, not_enough_shares, is_directory, bad_children}
use Rattle.web_ops.specs.Uploads.{directory_cap}

-- ---- walks

-- a walk that stopped; memory that ran out is told by no reply
abbrev pub walk_reply : WalkFault → Reply
walk_reply (NoChild name) = no_child
walk_reply NotDirectory = not_directory
walk_reply NotEnoughShares = not_enough_shares
walk_reply NoMemory = not_enough_shares

-- what is answered at the end of a walk
abbrev pub at_end : (Cap → Reply) → Result Cap WalkFault → Reply
at_end f (Ok end) = f end
at_end f (Err fault) = walk_reply fault

-- ---- GET and HEAD

-- what is answered with the bytes that read fields give
abbrev pub with_bytes : (List ℕ → Reply) → Option (List ℕ) → Reply
with_bytes f None = not_enough_shares
with_bytes f (Some bytes) = f bytes

-- the bytes of a file; of a directory nothing is looked at
abbrev pub content_reply : FileLookup → Option (List ℕ) → Cap → Reply
content_reply gives range (Chk fields) = with_bytes (bytes_reply (Some (verify_fields fields)) range) (gives fields)
content_reply gives range (Lit bytes) = bytes_reply None range bytes
content_reply gives range (DirChk fields) = is_directory
content_reply gives range (DirLit bytes) = is_directory
content_reply gives range (ChkVerify fields) = not_readable
content_reply gives range (DirChkVerify fields) = not_readable

abbrev pub children_reply : Cap → Option (List Entry) → Reply
children_reply cap None = not_directory
children_reply cap (Some entries) = json_reply (dir_text cap entries)

-- the JSON of a directory whose bytes these are
abbrev pub listing_reply : Cap → List ℕ → Reply
listing_reply cap bytes = children_reply cap (children bytes)

-- the JSON of a file, of which nothing is looked at, or of a directory
abbrev pub node_json_reply : FileLookup → Cap → Reply
node_json_reply gives (Chk fields) = json_reply (file_text (Chk fields))
node_json_reply gives (Lit bytes) = json_reply (file_text (Lit bytes))
node_json_reply gives (DirChk fields) = with_bytes (listing_reply (DirChk fields)) (gives fields)
node_json_reply gives (DirLit bytes) = listing_reply (DirLit bytes) bytes
node_json_reply gives (ChkVerify fields) = not_readable
node_json_reply gives (DirChkVerify fields) = not_readable

abbrev pub node_reply : FileLookup → Bool → Option (List ℕ) → Cap → Reply
node_reply gives true range cap = node_json_reply gives cap
node_reply gives false range cap = content_reply gives range cap

-- no range applies where the head is asked for alone
abbrev pub range_to_apply : Bool → Option (List ℕ) → Option (List ℕ)
range_to_apply true range = None
range_to_apply false range = range

-- a verify cap gives no bytes and leads nowhere
abbrev pub get_reply : FileLookup → Cap → List (List ℕ) → Bool → Option (List ℕ) → Reply
get_reply gives cap names json range =
    if is_verify_cap cap then not_readable else at_end (node_reply gives json range) (walked gives cap names)

-- ---- checks

-- the health of the file of a storage index, with a map of where its shares are, or without
abbrev pub health_text : Bool → List ℕ → HealthValue → List ℕ
health_text true index health = mapped_check_text index health
health_text false index health = check_text index health

-- the health of what a verify cap verifies; what stands in its cap is healthy
abbrev pub checked_reply : Bool → Look → Bool → Option VerifyCap → Reply
checked_reply mapped look verify None = json_reply literal_check_text
checked_reply mapped look verify (Some v) = json_reply (health_text mapped v.fields.si (check v.fields verify (look.stood v.fields.si)))

abbrev pub health_reply : Bool → Look → Bool → Cap → Reply
health_reply mapped look verify cap = checked_reply mapped look verify (weakened cap)

-- a verify cap is checked, and leads nowhere
abbrev pub check_reply : Bool → Look → Cap → List (List ℕ) → Bool → Reply
check_reply mapped look cap names verify =
    if is_verify_cap cap && not (length names == 0) then not_readable
    else at_end (health_reply mapped look verify) (walked look.gives cap names)

-- ---- uploads

abbrev pub made_reply : Encoding → Option (List Entry) → Reply
made_reply e None = bad_children
made_reply e (Some entries) = cap_reply (directory_cap e entries)

-- ---- requests

-- an upload is answered alike whatever stands
abbrev pub request_reply : Encoding → Look → Request → Reply
request_reply e look (Put bytes) = cap_reply (upload_cap (upload_of e bytes))
request_reply e look (Mkdir json) = made_reply e (made json)
request_reply e look (Get cap names json head_only range) = get_reply look.gives cap names json (range_to_apply head_only range)
request_reply e look (Check cap names verify) = check_reply e.mapped look cap names verify
