-- How much is kept of what isn't whole yet, and how many bytes go on with it.
use Rattle.std.specs.Prelude.{ℕ, ◌-◌, min, List, length}
use Rattle.http_edge.specs.Places.{BodyReading, going, whole, broken, read}
use Rattle.http_edge.specs.FramingState.{FramingState, part_of, body_of, chunks_of, closed}

-- the bytes of a head block, or of a body; of chunks those of their content
abbrev pub kept_bytes : FramingState → ℕ
kept_bytes (part_of part) = length part
kept_bytes (body_of awaited body) = length body
kept_bytes (chunks_of awaited content place) = length content
kept_bytes closed = 0

-- how many of so many bytes a reading took
abbrev pub count_read : ℕ → BodyReading → ℕ
count_read all (going content place) = all
count_read all (whole content taken) = taken
count_read all (broken fault taken) = taken

-- how many of these bytes belong to the body under way: all, or those up to its end or the first fault in it; none where no body
-- is under way
abbrev pub bytes_of_body : FramingState → List ℕ → ℕ
bytes_of_body (part_of part) bytes = 0
bytes_of_body (body_of awaited body) bytes = min (awaited.length - length body) (length bytes)
bytes_of_body (chunks_of awaited content place) bytes = count_read (length bytes) (read 0 content place bytes)
bytes_of_body closed bytes = 0
