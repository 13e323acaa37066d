-- The replies, each with its status, its fields and its body (RFC 9110, sections 8.3, 10.2.1, 14.4 and 15).
use Rattle.std.specs.Prelude.{ℕ, suc, ◌-◌, List, [], ◌∷◌, ◌++◌, length, take, drop, codes, Option, Some, None}
use Rattle.caps.specs.CapTexts.{cap_text}
use Rattle.caps.specs.declared.cap.Cap.{Cap}
use Rattle.caps.specs.Fields.{VerifyValue}
use Rattle.range_view.specs.declared.range.Resolved.{Resolved}
use Rattle.range_view.specs.declared.range.Resolved.TheVariants.{Whole, Part, Unsatisfiable}
use Rattle.range_view.specs.Resolved.{resolved}
use Rattle.web_request.specs.declared.fault.WebFault.{WebFault}
use Rattle.web_request.specs.declared.fault.WebFault.TheVariants.{BadTarget, NoResource, BadMethod, BadQuery, BadEscape, NotUtf8, TooManyNames, EmptyName, BadCap, NoMemory}
use Rattle.web_replies.specs.declared.reply.Status.{Status}
use Rattle.web_replies.specs.declared.reply.Status.TheVariants as status
use Rattle.web_replies.specs.declared.reply.MediaType.{MediaType}
use Rattle.web_replies.specs.declared.reply.MediaType.TheVariants.{OctetStream, PlainText, Json}
use Rattle.web_replies.specs.declared.reply.Field.{Field}
use Rattle.web_replies.specs.declared.reply.Field.TheVariants.{ContentRange, UnsatisfiedRange, Allow, Page}
use Rattle.web_replies.specs.declared.reply.Reply.{Reply}
use Rattle.web_replies.specs.declared.failed.Failure.{Failure}
use Rattle.web_replies.specs.declared.failed.Failure.TheVariants as failure

abbrev pub reply_with : Status → MediaType → Option Field → List ℕ → Reply
reply_with answered media_type field body = record {
  status = answered;
  fields = record { content_type = media_type; more = field; file = None };
  body = body;
}

-- the same reply, of bytes of this stored file
abbrev pub of_file : Option VerifyValue → Reply → Reply
of_file file reply = record {
  status = reply.status;
  fields = record { content_type = reply.fields.content_type; more = reply.fields.more; file = file };
  body = reply.body;
}

-- ---- what was asked for

-- the cap of what was stored
abbrev pub cap_reply : Cap → Reply
cap_reply cap = reply_with status.Ok PlainText None (cap_text cap)

abbrev pub json_reply : List ℕ → Reply
json_reply text = reply_with status.Ok Json None text

-- a file's bytes, all of them; it is told which one, if it is a stored one
abbrev pub file_reply : Option VerifyValue → List ℕ → Reply
file_reply file bytes = of_file file (reply_with status.Ok OctetStream None bytes)

-- those from one place to another, both of them too
abbrev pub part_reply : Option VerifyValue → ℕ → ℕ → List ℕ → Reply
part_reply file from to bytes =
    of_file file (reply_with status.PartialContent OctetStream (Some (ContentRange from to (length bytes))) (take (suc (to - from)) (drop from bytes)))

-- what the request has already (RFC 9110, section 15.4.5)
abbrev pub not_modified : Option VerifyValue → Reply
not_modified file = of_file file (reply_with status.NotModified OctetStream None [])

-- a page of the gateway's own
abbrev pub page_reply : MediaType → List ℕ → Reply
page_reply kind bytes = reply_with status.Ok kind (Some Page) bytes

-- ---- faults: their words and a line feed

abbrev pub fault_with : Status → Option Field → List ℕ → Reply
fault_with answered field words = reply_with answered PlainText field (words ++ 10 ∷ [])

abbrev pub fault_reply : Status → List ℕ → Reply
fault_reply answered words = fault_with answered None words

abbrev pub unsatisfiable : ℕ → Reply
unsatisfiable size = fault_with status.RangeNotSatisfiable (Some (UnsatisfiedRange size)) (codes "range not satisfiable")

abbrev pub not_readable : Reply
not_readable = fault_reply status.BadRequest (codes "not a readable cap")

abbrev pub no_child : Reply
no_child = fault_reply status.NotFound (codes "no such child")

abbrev pub not_directory : Reply
not_directory = fault_reply status.BadRequest (codes "not a directory")

abbrev pub not_enough_shares : Reply
not_enough_shares = fault_reply status.Gone (codes "not enough shares")

abbrev pub is_directory : Reply
is_directory = fault_reply status.BadRequest (codes "directory needs t=json")

abbrev pub bad_children : Reply
bad_children = fault_reply status.BadRequest (codes "bad children")

abbrev pub store_full : Reply
store_full = fault_reply status.ServiceUnavailable (codes "store full")

abbrev pub store_down : Reply
store_down = fault_reply status.ServiceUnavailable (codes "store down")

-- what can't be met
abbrev pub failure_reply : Failure → Reply
failure_reply failure.NotReadable = not_readable
failure_reply failure.NoChild = no_child
failure_reply failure.NotDirectory = not_directory
failure_reply failure.NotEnoughShares = not_enough_shares
failure_reply failure.NeedsJson = is_directory
failure_reply failure.BadChildren = bad_children
failure_reply failure.StoreFull = store_full
failure_reply failure.StoreDown = store_down

-- what is no request; memory that ran out is told by no reply
abbrev pub refusal_reply : WebFault → Reply
refusal_reply BadTarget = fault_reply status.BadRequest (codes "bad target")
refusal_reply NoResource = fault_reply status.NotFound (codes "no such resource")
refusal_reply (BadMethod resource) = fault_with status.MethodNotAllowed (Some (Allow resource)) (codes "method not allowed")
refusal_reply BadQuery = fault_reply status.BadRequest (codes "bad query")
refusal_reply BadEscape = fault_reply status.BadRequest (codes "bad escape")
refusal_reply NotUtf8 = fault_reply status.BadRequest (codes "not utf-8")
refusal_reply TooManyNames = fault_reply status.BadRequest (codes "too many names")
refusal_reply EmptyName = fault_reply status.BadRequest (codes "empty name")
refusal_reply BadCap = fault_reply status.BadRequest (codes "bad cap")
refusal_reply NoMemory = fault_reply status.BadRequest []

-- ---- ranges

abbrev pub resolved_reply : Option VerifyValue → Resolved → List ℕ → Reply
resolved_reply file Whole bytes = file_reply file bytes
resolved_reply file (Part from to) bytes = part_reply file from to bytes
resolved_reply file Unsatisfiable bytes = of_file file (unsatisfiable (length bytes))

-- a file's bytes, or as much of them as a range asks for
abbrev pub bytes_reply : Option VerifyValue → Option (List ℕ) → List ℕ → Reply
bytes_reply file None bytes = file_reply file bytes
bytes_reply file (Some range) bytes = resolved_reply file (resolved range (length bytes)) bytes
