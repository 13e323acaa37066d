-- Replies as they are sent (RFC 9110, sections 8.3, 10.2.1, 14.4 and 15).
use Rattle.std.specs.Prelude.{ℕ, List, [], ◌∷◌, ◌++◌, codes, decimal, Option, Some, None}
use Rattle.http_edge.specs.declared.item.FramingFault.{FramingFault}
use Rattle.http_edge.specs.declared.item.FramingFault.TheVariants.{BadHead, BadHost, TransferCoding, BadLength, TooLong, BadChunk}
use Rattle.http_edge.specs.declared.field.Field.{Field}
use Rattle.http_edge.specs.declared.reply.Status.{Status}
use Rattle.http_edge.specs.declared.reply.Status.TheVariants as status
use Rattle.http_edge.specs.declared.reply.Reply.{Reply}
use Rattle.web_request.specs.declared.request.Resource.{Resource}
use Rattle.web_request.specs.declared.request.Resource.TheVariants.{Uploads, Node}
use Rattle.web_replies.specs.declared.reply.Reply.{Reply as WebReply}
use Rattle.web_replies.specs.declared.reply.Fields.{Fields}
use Rattle.web_replies.specs.declared.reply.Field.{Field as WebField}
use Rattle.web_replies.specs.declared.reply.Field.TheVariants.{ContentRange, UnsatisfiedRange, Allow, Page}
use Rattle.web_replies.specs.declared.reply.MediaType.{MediaType}
use Rattle.web_replies.specs.declared.reply.MediaType.TheVariants.{OctetStream, PlainText, Json, Html, Css, JavaScript, Svg, Png}
use Rattle.web_replies.specs.declared.reply.Status.{Status as WebStatus}
use Rattle.web_replies.specs.declared.reply.Status.TheVariants as web_status

abbrev pub status_line : WebStatus → Status
status_line web_status.Ok = status.Ok
status_line web_status.PartialContent = status.PartialContent
status_line web_status.NotModified = status.NotModified
status_line web_status.BadRequest = status.BadRequest
status_line web_status.NotFound = status.NotFound
status_line web_status.MethodNotAllowed = status.MethodNotAllowed
status_line web_status.Gone = status.Gone
status_line web_status.RangeNotSatisfiable = status.RangeNotSatisfiable
status_line web_status.ServiceUnavailable = status.ServiceUnavailable

abbrev pub media_type : MediaType → List ℕ
media_type OctetStream = codes "application/octet-stream"
media_type PlainText = codes "text/plain; charset=utf-8"
media_type Json = codes "application/json"
media_type Html = codes "text/html; charset=utf-8"
media_type Css = codes "text/css; charset=utf-8"
media_type JavaScript = codes "text/javascript; charset=utf-8"
media_type Svg = codes "image/svg+xml"
media_type Png = codes "image/png"

-- the methods that a resource takes
abbrev pub methods : Resource → List ℕ
methods Uploads = codes "POST, PUT"
methods Node = codes "GET, HEAD, POST"

-- A page's scripts, styles and requests are this gateway's alone, and no other page frames it (Content Security Policy
-- Level 3); its type isn't guessed (Fetch, section 3.6); its address goes to nobody (Referrer Policy); it is asked for anew
-- each time (RFC 9111, section 5.2.2.4).
abbrev pub page_policy : List ℕ
page_policy = codes "default-src 'none'; script-src 'self'; style-src 'self'; connect-src 'self'; worker-src 'self'; img-src blob: data:; media-src blob:; base-uri 'none'; form-action 'none'; frame-ancestors 'none'"

abbrev pub sniff_line : Field
sniff_line = record { name = codes "X-Content-Type-Options"; value = codes "nosniff" }

abbrev pub referrer_line : Field
referrer_line = record { name = codes "Referrer-Policy"; value = codes "no-referrer" }

abbrev pub cache_line : Field
cache_line = record { name = codes "Cache-Control"; value = codes "no-cache" }

-- the first line of a further field, and those after it
abbrev pub web_field_line : WebField → Field
web_field_line (ContentRange from to size) = record {
  name = codes "Content-Range";
  value = codes "bytes " ++ (decimal from ++ (codes "-" ++ (decimal to ++ (codes "/" ++ decimal size))));
}
web_field_line (UnsatisfiedRange size) = record { name = codes "Content-Range"; value = codes "bytes */" ++ decimal size }
web_field_line (Allow resource) = record { name = codes "Allow"; value = methods resource }
web_field_line Page = record { name = codes "Content-Security-Policy"; value = page_policy }

abbrev pub more_lines : WebField → List Field
more_lines (ContentRange from to size) = []
more_lines (UnsatisfiedRange size) = []
more_lines (Allow resource) = []
more_lines Page = sniff_line ∷ referrer_line ∷ cache_line ∷ []

abbrev pub further_lines : Option WebField → List Field
further_lines None = []
further_lines (Some field) = web_field_line field ∷ more_lines field

-- a page's lines after its first, behind others; for private clauses
abbrev pub with_page_lines : List Field → List Field
with_page_lines lines = ((lines ++ sniff_line ∷ []) ++ referrer_line ∷ []) ++ cache_line ∷ []

abbrev pub field_lines : Fields → List Field
field_lines fields = record { name = codes "Content-Type"; value = media_type fields.content_type } ∷ further_lines fields.more

-- a reply of the web API
abbrev pub wire_reply : WebReply → Reply
wire_reply reply = record { status = status_line reply.status; fields = field_lines reply.fields; body = reply.body }

-- ---- framing faults

-- a fault's words, which are a text, and a line feed
abbrev pub words_reply : Status → List ℕ → Reply
words_reply answered words = record {
  status = answered;
  fields = record { name = codes "Content-Type"; value = media_type PlainText } ∷ [];
  body = words ++ 10 ∷ [];
}

abbrev pub framing_reply : FramingFault → Reply
framing_reply BadHead = words_reply status.BadRequest (codes "bad request")
framing_reply BadHost = words_reply status.BadRequest (codes "bad request")
framing_reply TransferCoding = words_reply status.NotImplemented (codes "transfer coding not supported")
framing_reply BadLength = words_reply status.BadRequest (codes "bad request")
framing_reply TooLong = words_reply status.ContentTooLarge (codes "body too long")
framing_reply BadChunk = words_reply status.BadRequest (codes "bad request")
