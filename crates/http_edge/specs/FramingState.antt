-- What a connection's bytes leave over after the items that stand complete in them, and how it goes on.
use Rattle.std.specs.Prelude.{ℕ, zero, suc, Bool, true, false, List, [], ◌∷◌, ◌++◌, length, take, drop, if◌then◌else◌, nat_le}
use Rattle.std.specs.List.{list_any}
use Rattle.http_edge.specs.Judge.{closes, request, request_of, interim, interim_of, is_head_request}
use Rattle.http_edge.specs.Places.{BodyReading, going, whole, broken, line_start, read}
use Rattle.http_edge.specs.Frame.{skip_empty_lines, part_of_head, part_of_body, part_of_chunks, message, front_of, frame}
use Rattle.http_edge.specs.declared.item.Item.{Item}
use Rattle.http_edge.specs.declared.item.Item.TheVariants.{Fault}
use Rattle.http_edge.specs.declared.verdict.Awaited.{Awaited}
use Rattle.http_edge.specs.declared.verdict.Verdict.{Verdict}
use Rattle.http_edge.specs.declared.verdict.Chunked.{Chunked}
use Rattle.http_edge.specs.declared.place.Place.{Place}
use Rattle.http_edge.specs.declared.verdict.Verdict.TheVariants.{Taken, InChunks, Refused}

-- bytes of a head block that isn't complete, a request and what stands of its body (of chunks their content so far and
-- the place of the next byte), or nothing at all, after an item that closes
pub data FramingState : Type 0 where
  part_of : List ℕ → FramingState
  body_of : Awaited → List ℕ → FramingState
  chunks_of : Chunked → List ℕ → Place → FramingState
  closed : FramingState

abbrev pub is_closed : FramingState → Bool
is_closed (part_of part) = false
is_closed (body_of awaited body) = false
is_closed (chunks_of awaited content place) = false
is_closed closed = true

-- what stands after the first messages, at most so many, up to one that closes
abbrev pub left_behind : ℕ → List ℕ → FramingState
left_behind zero bytes = part_of bytes
left_behind (suc n) bytes =
    let text = skip_empty_lines bytes in
    elim (front_of text) [
      | part_of_head ↦ part_of text
      | part_of_body a body ↦ body_of a body
      | part_of_chunks a content place ↦ chunks_of a content place
      | message m ↦ if list_any closes m.items then closed else left_behind n (drop m.size text)
    ]

-- what the bytes leave over
unfoldable pub rest : List ℕ → FramingState
rest bytes = left_behind (length bytes) bytes

-- the items of the bytes that begin with a request's body
abbrev pub frame_body : Awaited → List ℕ → List Item
frame_body a bytes =
    if nat_le a.length (length bytes)
    then request a (take a.length bytes) ∷ (if a.close then [] else frame (drop a.length bytes))
    else []

-- what they leave over
abbrev pub rest_body : Awaited → List ℕ → FramingState
rest_body a bytes =
    if nat_le a.length (length bytes) then (if a.close then closed else rest (drop a.length bytes)) else body_of a bytes

-- the same of a chunked body, by what was read of it
abbrev pub frame_read : Chunked → List ℕ → BodyReading → List Item
frame_read a bytes (going content place) = []
frame_read a bytes (whole content k) = request_of a content ∷ (if a.close then [] else frame (drop k bytes))
frame_read a bytes (broken fault k) = Fault fault (is_head_request a.head) ∷ []

abbrev pub rest_read : Chunked → List ℕ → BodyReading → FramingState
rest_read a bytes (going content place) = chunks_of a content place
rest_read a bytes (whole content k) = if a.close then closed else rest (drop k bytes)
rest_read a bytes (broken fault k) = closed

-- the items that more bytes complete, after what was left over
abbrev pub frame_from : FramingState → List ℕ → List Item
frame_from (part_of part) more = frame (part ++ more)
frame_from (body_of a body) more = frame_body a (body ++ more)
frame_from (chunks_of a content place) more = frame_read a more (read 0 content place more)
frame_from closed more = []

-- what they leave over
abbrev pub rest_from : FramingState → List ℕ → FramingState
rest_from (part_of part) more = rest (part ++ more)
rest_from (body_of a body) more = rest_body a (body ++ more)
rest_from (chunks_of a content place) more = rest_read a more (read 0 content place more)
rest_from closed more = closed

-- the items of a head block that was judged, and of what follows it
abbrev pub frame_after : Verdict → List ℕ → List Item
frame_after (Refused fault head_only) more = Fault fault head_only ∷ []
frame_after (Taken a) more = interim a.expects a.length ++ frame_from (body_of a []) more
frame_after (InChunks a) more = interim_of a.expects ++ frame_from (chunks_of a [] line_start) more

-- what they leave over; for private clauses
abbrev pub rest_after : Verdict → List ℕ → FramingState
rest_after (Refused fault head_only) more = closed
rest_after (Taken a) more = rest_from (body_of a []) more
rest_after (InChunks a) more = rest_from (chunks_of a [] line_start) more
