-- Where a chunked body passes the limit of a body.
use Rattle.std.specs.Prelude.{◌≡◌, ◌+◌, ◌<◌, ◌≤◌, ℕ, List, ◌++◌, length}
use Rattle.std.specs.List.{All, flat_map}
use Rattle.httparse.specs.Grammar.{ChunkLine, IsChunkLine, print_chunk_line, chunk_size}
use Rattle.http_edge.specs.Judge.{most_body_bytes}
use Rattle.http_edge.specs.Chunks.{most_chunk_line_bytes, Chunk, print_chunk, IsChunk, content_of}

-- chunks that are within the limit, and a chunk line, the text's end, with whose size they are over it
pub record PassesLimit (text : List ℕ) : Type 0 where
  pub chunks : List Chunk
  pub all : All IsChunk chunks
  pub within : length (content_of chunks) ≤ most_body_bytes
  pub line : ChunkLine
  pub is : IsChunkLine line
  pub short : length (print_chunk_line line) ≤ most_chunk_line_bytes
  pub over : most_body_bytes < length (content_of chunks) + chunk_size line
  pub text_is : text ≡ flat_map print_chunk chunks ++ print_chunk_line line
