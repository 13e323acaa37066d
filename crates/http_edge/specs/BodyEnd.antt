-- A chunked body that a piece ends.
use Rattle.std.specs.Prelude.{◌≡◌, ℕ, List, ◌++◌}
use Rattle.http_edge.specs.FramingState.{FramingState, chunks_of}
use Rattle.http_edge.specs.Places.{whole, read}
use Rattle.http_edge.specs.declared.place.Place.{Place}
use Rattle.http_edge.specs.declared.verdict.Chunked.{Chunked}

-- a request's chunked body is under way, with the content so far; the piece ends it, and adds the last of its content
pub record IsBodyEnd (was : FramingState) (request : Chunked) (content piece added : List ℕ) : Type 0 where
  pub place : Place
  pub count : ℕ
  pub under_way : was ≡ chunks_of request content place
  pub ends : read 0 content place piece ≡ whole (content ++ added) count
