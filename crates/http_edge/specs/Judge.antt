-- What a head block comes to: a request that its body completes, or a framing fault (RFC 9112, sections 3.2, 6.1, 6.2 and 9.3).
use Rattle.std.specs.Prelude.{ℕ, Bool, true, false, ◌&&◌, ◌||◌, not, List, [], ◌∷◌, length, map, filter, count_by, if◌then◌else◌, ◌==◌, nat_lt, nat_le, Option, Some, None, Result, Ok, Err, bytes_eq, codes}
use Rattle.std.specs.List.{list_any, list_all, slice_split}
use Rattle.std.specs.Char.{is_ascii_digit}
use Rattle.std.specs.Str.Parse.{digits_value}
use Rattle.httparse.specs.Ascii.{comma}
use Rattle.httparse.specs.Grammar.{RequestHead, field_value, trim_ows}
use Rattle.httparse.specs.Grammar as grammar
use Rattle.octets.specs.Case.{eq_ignore_case}
use Rattle.http_edge.specs.Block.{head_of}
use Rattle.http_edge.specs.declared.field.Field.{Field}
use Rattle.http_edge.specs.declared.item.Head.{Head}
use Rattle.http_edge.specs.declared.item.FramingFault.{FramingFault}
use Rattle.http_edge.specs.declared.item.FramingFault.TheVariants.{BadHead, BadHost, TransferCoding, BadLength, TooLong, BadChunk}
use Rattle.http_edge.specs.declared.item.Item.{Item}
use Rattle.http_edge.specs.declared.item.Item.TheVariants.{Request, Continue, Fault}
use Rattle.http_edge.specs.declared.verdict.Awaited.{Awaited}
use Rattle.http_edge.specs.declared.verdict.Verdict.{Verdict}
use Rattle.http_edge.specs.declared.verdict.Chunked.{Chunked}
use Rattle.http_edge.specs.declared.verdict.Verdict.TheVariants.{Taken, InChunks, Refused}

-- the number of a framing fault
abbrev pub fault_number : FramingFault → ℕ
fault_number BadHead = 19
fault_number BadHost = 20
fault_number TransferCoding = 21
fault_number BadLength = 22
fault_number TooLong = 23
fault_number BadChunk = 25

-- the connection closes after the item's answer
abbrev pub closes : Item → Bool
closes (Request head body close) = close
closes Continue = false
closes (Fault fault head_only) = true

-- ---- the parts of a head

-- a field of a name and a value
abbrev pub field_from : List ℕ × List ℕ → Field
field_from parts = record { name = parts.0; value = parts.1 }

-- a field's name, and its value without the white space around it
abbrev pub field_of : grammar.Field → Field
field_of f = field_from (f.name, field_value f)

abbrev pub head_parts : RequestHead → Head
head_parts h = record { method = h.method; target = h.target; fields = map field_of h.fields }

-- how many fields have the name, in any case
unfoldable pub count_named : List ℕ → List Field → ℕ
count_named name fields = count_by (λ f. eq_ignore_case f.name name) fields

-- ---- the checks, in their order

-- HTTP/1.1 has exactly one Host field, HTTP/1.0 at most one; its value isn't looked at
abbrev pub has_good_hosts : ℕ → ℕ → Bool
has_good_hosts minor hosts = nat_le hosts 1 && (minor == 0 || nat_le 1 hosts)

abbrev pub is_comma : ℕ → Bool
is_comma b = b == comma

-- one of the pieces between commas, cut of the spaces and tabs at its ends, is the token, in any case
unfoldable pub lists_token : List ℕ → List ℕ → Bool
lists_token token value = list_any (λ piece. eq_ignore_case (trim_ows piece) token) (slice_split is_comma value)

-- a Connection field that lists `close`
unfoldable pub asks_close : Field → Bool
asks_close f = eq_ignore_case f.name (codes "connection") && lists_token (codes "close") f.value

-- a Content-Length field
abbrev pub is_length : Field → Bool
is_length f = eq_ignore_case f.name (codes "content-length")

-- the most bytes of a body
abbrev pub most_body_bytes : ℕ
most_body_bytes = 16777216

-- the number that a value writes: one or more decimal digits, with any number of leading zeros
unfoldable pub length_of : List ℕ → Result ℕ FramingFault
length_of value =
    if not (nat_lt 0 (length value) && list_all is_ascii_digit value) then Err BadLength
    else (if nat_le (digits_value 10 value) most_body_bytes then Ok (digits_value 10 value) else Err TooLong)

-- how many bytes the body has, by the Content-Length fields: none where no field says so
abbrev pub length_by : List Field → Result ℕ FramingFault
length_by [] = Ok 0
length_by (f ∷ []) = length_of f.value
length_by (f ∷ g ∷ fields) = Err BadLength

unfoldable pub body_length : List Field → Result ℕ FramingFault
body_length fields = length_by (filter is_length fields)

-- HTTP/1.0 closes the connection, and HTTP/1.1 where a field asks for it
abbrev pub closes_after : Head → ℕ → Bool
closes_after head minor = minor == 0 || list_any asks_close head.fields

-- the method is HEAD, so that the reply has no body (RFC 9110, section 9.3.2)
abbrev pub is_head_request : Head → Bool
is_head_request head = bytes_eq head.method (codes "HEAD")

-- an Expect field of 100-continue, in any case
unfoldable pub asks_continue : Field → Bool
asks_continue f = eq_ignore_case f.name (codes "expect") && eq_ignore_case f.value (codes "100-continue")

-- HTTP/1.1 with such a field asks for an interim answer
abbrev pub expects_continue : Head → ℕ → Bool
expects_continue head minor = not (minor == 0) && list_any asks_continue head.fields

-- how a body's end is known: by so many bytes, or by chunks
pub data Framing : Type 0 where
  counted : ℕ → Framing
  chunked : Framing

abbrev pub is_coding : Field → Bool
is_coding f = eq_ignore_case f.name (codes "transfer-encoding")

abbrev pub framing_by_length : Result ℕ FramingFault → Result Framing FramingFault
framing_by_length (Err fault) = Err fault
framing_by_length (Ok n) = Ok (counted n)

-- one coding, by whether it is chunked and whether chunks can't come here
abbrev pub framing_by_coding : Bool → Bool → Result Framing FramingFault
framing_by_coding is_chunked elsewhere =
    if not is_chunked then Err TransferCoding else (if elsewhere then Err BadLength else Ok chunked)

-- chunks alone are taken, in HTTP/1.1 and without a Content-Length field; without a coding the length counts
abbrev pub framing_by : List Field → ℕ → List Field → Result Framing FramingFault
framing_by [] minor fields = framing_by_length (body_length fields)
framing_by (f ∷ []) minor fields =
    framing_by_coding (eq_ignore_case f.value (codes "chunked")) (minor == 0 || list_any is_length fields)
framing_by (f ∷ g ∷ more) minor fields = Err TransferCoding

unfoldable pub body_framing : ℕ → List Field → Result Framing FramingFault
body_framing minor fields = framing_by (filter is_coding fields) minor fields

-- a request whose body is awaited
abbrev pub acceptance : Head → Bool → Bool → Framing → Verdict
acceptance head close expects (counted n) = Taken (record { head = head; close = close; expects = expects; length = n })
acceptance head close expects chunked = InChunks (record { head = head; close = close; expects = expects })

-- a head whose body is framed so
abbrev pub with_framing : Head → ℕ → Result Framing FramingFault → Verdict
with_framing head minor (Err fault) = Refused fault (is_head_request head)
with_framing head minor (Ok framing) = acceptance head (closes_after head minor) (expects_continue head minor) framing

-- what a head with this minor version comes to, by the first check that it fails
unfoldable pub head_verdict : Head → ℕ → Verdict
head_verdict head minor =
    if not (has_good_hosts minor (count_named (codes "host") head.fields)) then Refused BadHost (is_head_request head)
    else with_framing head minor (body_framing minor head.fields)

-- what a length says, where none stands for chunks; for private clauses
abbrev pub framing_so : Option ℕ → Framing
framing_so None = chunked
framing_so (Some n) = counted n

-- for private clauses
abbrev pub framing_of : Result (Option ℕ) FramingFault → Result Framing FramingFault
framing_of (Err fault) = Err fault
framing_of (Ok length) = Ok (framing_so length)

-- ---- a head block

-- the parts of a head with at most 64 fields, and its minor version
abbrev pub within_limit : Option RequestHead → Option (Head × ℕ)
within_limit None = None
within_limit (Some h) = if nat_le (length h.fields) 64 then Some (head_parts h, h.minor) else None

abbrev pub verdict_of : Option (Head × ℕ) → Verdict
verdict_of None = Refused BadHead false
verdict_of (Some found) = head_verdict found.0 found.1

-- what a head block comes to
unfoldable pub block_verdict : List ℕ → Verdict
block_verdict block = verdict_of (within_limit (head_of block))

-- the request that a head and its whole body are
abbrev pub request : Awaited → List ℕ → Item
request a body = Request a.head body a.close

abbrev pub request_of : Chunked → List ℕ → Item
request_of a body = Request a.head body a.close

-- an interim answer as a list, where one is asked for
abbrev pub interim_of : Bool → List Item
interim_of expects = if expects then Continue ∷ [] else []

-- a body of no bytes asks for none
abbrev pub interim : Bool → ℕ → List Item
interim expects n = interim_of (expects && nat_lt 0 n)
