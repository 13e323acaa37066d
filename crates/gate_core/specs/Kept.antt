-- How much is kept of a connection, and how many bytes go on with a body.
use Rattle.std.specs.Prelude.{◌≢◌, ℕ, ◌+◌, List, length, Option, Some, None, ⊤}
use Rattle.http_edge.specs.FramingState.{chunks_of}
use Rattle.http_edge.specs.Kept.{kept_bytes, bytes_of_body}
use Rattle.http_edge.specs.declared.place.Place.{Place}
use Rattle.http_edge.specs.declared.verdict.Chunked.{Chunked}
use Rattle.gate_core.specs.ConnectionState.{ConnectionState}

-- the bytes of a request that isn't whole yet, and those that wait to be taken
abbrev pub kept_in : Option ConnectionState → ℕ
kept_in None = 0
kept_in (Some held) = kept_bytes held.conn + length held.waiting

-- how many of these bytes belong to the body under way
abbrev pub bytes_of_body_in : Option ConnectionState → List ℕ → ℕ
bytes_of_body_in None bytes = 0
bytes_of_body_in (Some held) bytes = bytes_of_body held.conn bytes

-- no body in chunks is under way
abbrev pub HasNoChunks : Option ConnectionState → Type 0
HasNoChunks None = ⊤
HasNoChunks (Some held) = (request : Chunked) (content : List ℕ) (place : Place) → held.conn ≢ chunks_of request content place
