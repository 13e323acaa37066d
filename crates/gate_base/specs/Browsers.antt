-- Replies as browsers make use of them, where the settings say so: files have entity tags, are told by name, and run
-- nothing; refusals aren't kept (RFC 9110, sections 8.8, 13 and 14; RFC 9111, section 5.2.2; RFC 6266).
use Rattle.std.specs.Prelude.{ℕ, Bool, true, false, ◌||◌, List, [], ◌∷◌, ◌++◌, bytes_eq, codes, if◌then◌else◌, Option, Some, None}
use Rattle.caps.specs.Fields.{VerifyValue}
use Rattle.http_edge.specs.declared.field.Field.{Field}
use Rattle.http_edge.specs.declared.item.Head.{Head}
use Rattle.http_edge.specs.declared.reply.Reply.{Reply}
use Rattle.octets.specs.Case.{eq_ignore_case}
use Rattle.web_request.specs.Ranges.{is_if_range}
use Rattle.web_request.specs.declared.head.Field.{Field as WebField}
use Rattle.web_request.specs.declared.head.Head.{Head as WebHead}
use Rattle.web_replies.specs.declared.reply.Reply.{Reply as WebReply}
use Rattle.web_replies.specs.declared.reply.Fields.{Fields}
use Rattle.web_replies.specs.declared.reply.MediaType.{MediaType}
use Rattle.web_replies.specs.declared.reply.MediaType.TheVariants.{OctetStream, PlainText, Json, Html, Css, JavaScript, Svg, Png}
use Rattle.web_replies.specs.declared.reply.Status.{Status as WebStatus}
use Rattle.web_replies.specs.declared.reply.Status.TheVariants as web_status
use Rattle.web_replies.specs.Replies.{bytes_reply, not_modified}
use Rattle.reply_fields.specs.Tags.{entity_tag, is_had, range_if}
use Rattle.reply_fields.specs.Names.{naming_of, disposition_of}
use Rattle.reply_fields.specs.Guesses.{guess_of, guess_type}
use Rattle.reply_fields.specs.declared.guess.Guess.{Guess}
use Rattle.reply_fields.specs.declared.guess.Guess.TheVariants as guesses
use Rattle.reply_fields.specs.declared.naming.Naming.{Naming}
use Rattle.gate_base.specs.Requests.{web_head}
use Rattle.gate_base.specs.Wire.{status_line, media_type, further_lines, sniff_line, wire_reply}

-- ---- conditions on a file's tag

-- a field by which a request is one on condition
abbrev pub is_condition : WebField → Bool
is_condition field = eq_ignore_case field.name (codes "if-none-match") || is_if_range field

-- of HEAD no range is looked at
abbrev pub range_on : List ℕ → WebHead → Option (List ℕ)
range_on tag head = if bytes_eq head.method (codes "HEAD") then None else range_if tag head.fields

abbrev pub cut_to : Option (List ℕ) → WebReply → WebReply
cut_to None reply = reply
cut_to (Some range) reply = bytes_reply reply.fields.file (Some range) reply.body

-- 304 to who has the file, and the range that was asked for on condition
abbrev pub conditioned_on : List ℕ → WebHead → WebReply → WebReply
conditioned_on tag head reply = if is_had tag head.fields then not_modified reply.fields.file else cut_to (range_on tag head) reply

abbrev pub conditioned_by : Option VerifyValue → WebHead → WebReply → WebReply
conditioned_by None head reply = reply
conditioned_by (Some file) head reply = conditioned_on (entity_tag file) head reply

-- conditions are looked at in replies with bytes of a stored file, and where no byte of it is in the range: without the
-- range the reply would have them
unfoldable pub conditioned : WebHead → WebReply → WebReply
conditioned head reply = conditioned_by reply.fields.file head reply

-- ---- fields

abbrev pub is_unchanged : WebStatus → Bool
is_unchanged web_status.Ok = false
is_unchanged web_status.PartialContent = false
is_unchanged web_status.NotModified = true
is_unchanged web_status.BadRequest = false
is_unchanged web_status.NotFound = false
is_unchanged web_status.MethodNotAllowed = false
is_unchanged web_status.Gone = false
is_unchanged web_status.RangeNotSatisfiable = false
is_unchanged web_status.ServiceUnavailable = false

abbrev pub is_refusal_status : WebStatus → Bool
is_refusal_status web_status.Ok = false
is_refusal_status web_status.PartialContent = false
is_refusal_status web_status.NotModified = false
is_refusal_status web_status.BadRequest = true
is_refusal_status web_status.NotFound = true
is_refusal_status web_status.MethodNotAllowed = true
is_refusal_status web_status.Gone = true
is_refusal_status web_status.RangeNotSatisfiable = true
is_refusal_status web_status.ServiceUnavailable = true

-- bytes of a file
abbrev pub is_of_file : MediaType → Bool
is_of_file OctetStream = true
is_of_file PlainText = false
is_of_file Json = false
is_of_file Html = false
is_of_file Css = false
is_of_file JavaScript = false
is_of_file Svg = false
is_of_file Png = false

abbrev pub type_line : List ℕ → Field
type_line value = record { name = codes "Content-Type"; value = value }

abbrev pub ranges_line : Field
ranges_line = record { name = codes "Accept-Ranges"; value = codes "bytes" }

-- nothing that is stored runs here, and it has no origin (Content Security Policy Level 3, section 6.3.2), but film and
-- sound: they have the gateway's, from which browsers ask for more of their bytes
abbrev pub sandbox_by : Option Guess → List ℕ
sandbox_by None = codes "sandbox"
sandbox_by (Some guesses.PlainText) = codes "sandbox"
sandbox_by (Some guesses.Png) = codes "sandbox"
sandbox_by (Some guesses.Jpeg) = codes "sandbox"
sandbox_by (Some guesses.Gif) = codes "sandbox"
sandbox_by (Some guesses.WebP) = codes "sandbox"
sandbox_by (Some guesses.Avif) = codes "sandbox"
sandbox_by (Some guesses.Mp4) = codes "sandbox allow-same-origin"
sandbox_by (Some guesses.WebM) = codes "sandbox allow-same-origin"
sandbox_by (Some guesses.Mp3) = codes "sandbox allow-same-origin"
sandbox_by (Some guesses.Ogg) = codes "sandbox allow-same-origin"
sandbox_by (Some guesses.Wav) = codes "sandbox allow-same-origin"
sandbox_by (Some guesses.Flac) = codes "sandbox allow-same-origin"

abbrev pub sandbox_line : Option Guess → Field
sandbox_line guess = record { name = codes "Content-Security-Policy"; value = sandbox_by guess }

-- no cache keeps it
abbrev pub no_store_line : Field
no_store_line = record { name = codes "Cache-Control"; value = codes "no-store" }

abbrev pub tag_lines : Option VerifyValue → List Field
tag_lines None = []
tag_lines (Some file) = record { name = codes "ETag"; value = entity_tag file } ∷ []

abbrev pub disposition_lines : Option (List ℕ) → List Field
disposition_lines None = []
disposition_lines (Some value) = record { name = codes "Content-Disposition"; value = value } ∷ []

-- what each reply with bytes of a file says, behind others; for private clauses
abbrev pub with_file_lines : Option Guess → List Field → List Field
with_file_lines guess lines = ((lines ++ ranges_line ∷ []) ++ sniff_line ∷ []) ++ sandbox_line guess ∷ []

-- the type that a file's name says, or none
abbrev pub type_by : Option Guess → List ℕ
type_by None = media_type OctetStream
type_by (Some guess) = guess_type guess

-- the lines of bytes of a file that is named so
abbrev pub file_lines : Naming → Fields → List Field
file_lines naming fields =
    type_line (type_by (guess_of naming.name))
    ∷ (further_lines fields.more ++ (ranges_line ∷ (sniff_line ∷ (sandbox_line (guess_of naming.name) ∷ (tag_lines fields.file ++ disposition_lines (disposition_of naming))))))

abbrev pub refusal_lines : WebStatus → List Field
refusal_lines status = if is_refusal_status status then no_store_line ∷ [] else []

-- those of any other reply
abbrev pub other_lines : WebStatus → Fields → List Field
other_lines status fields = type_line (media_type fields.content_type) ∷ (further_lines fields.more ++ refusal_lines status)

unfoldable pub browser_lines : List ℕ → WebStatus → Fields → List Field
browser_lines target status fields =
    if is_unchanged status then tag_lines fields.file
    else (if is_of_file fields.content_type then file_lines (naming_of target) fields else other_lines status fields)

-- ---- replies

abbrev pub with_browser_lines : List ℕ → WebReply → Reply
with_browser_lines target reply = record {
  status = status_line reply.status;
  fields = browser_lines target reply.status reply.fields;
  body = reply.body;
}

unfoldable pub browser_reply : WebHead → WebReply → Reply
browser_reply head reply = with_browser_lines head.target (conditioned head reply)

-- for browsers, or for others
abbrev pub sent_by : Bool → WebHead → WebReply → Reply
sent_by for_browsers head reply = if for_browsers then browser_reply head reply else wire_reply reply

-- a reply to a request with this head, as it is sent
abbrev pub sent_reply : Bool → Head → WebReply → Reply
sent_reply for_browsers head reply = sent_by for_browsers (web_head head) reply
