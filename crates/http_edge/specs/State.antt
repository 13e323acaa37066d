-- What a state stands for, and what the next bytes do to it.
use Rattle.std.specs.Prelude.{◌≡◌, ℕ, ◌<◌, List, [], ◌∷◌, ◌++◌, length, Option, Some, None}
use Rattle.http_edge.specs.Frame.{empty_line_length, head_length, most_head_bytes}
use Rattle.http_edge.specs.FramingState.{FramingState, part_of, body_of, chunks_of, closed, frame_from, rest_from, frame_after, rest_after}
use Rattle.http_edge.specs.Places.{IsFramingPlace}
use Rattle.http_edge.specs.declared.item.Item.{Item}
use Rattle.http_edge.specs.declared.verdict.Verdict.{Verdict}
use Rattle.http_edge.specs.declared.state.State.{State}
use Rattle.http_edge.specs.declared.state.State.TheVariants.{Head, Body, Chunks, Closed}

-- a beginning of a head block, in which nothing stands complete
pub record IsHeadPart (part : List ℕ) : Type 0 where
  pub no_blank : empty_line_length part ≡ 0
  pub no_block : head_length part ≡ None
  pub short : length part < most_head_bytes

-- what a state stands for
abbrev pub left_of : State → FramingState
left_of (Head part) = part_of part.items
left_of (Body awaited body) = body_of awaited body.items
left_of (Chunks awaited content place) = chunks_of awaited content.items place
left_of Closed = closed

-- nothing stands complete in it
abbrev pub IsWaiting : FramingState → Type 0
IsWaiting (part_of part) = IsHeadPart part
IsWaiting (body_of awaited body) = length body < awaited.length
IsWaiting (chunks_of awaited content place) = IsFramingPlace (length content) place
IsWaiting closed = Unit {0}

-- the item, if there is one, as a list; for private clauses
abbrev pub item_list : Option Item → List Item
item_list None = []
item_list (Some item) = item ∷ []

-- with the bytes, what was left over completes the items and goes on as what is left over then; for private clauses
pub record Adds (was : FramingState) (bytes : List ℕ) (found : List Item) (next : FramingState) : Type 0 where
  pub items : (more : List ℕ) → frame_from was (bytes ++ more) ≡ found ++ frame_from next more
  pub left : (more : List ℕ) → rest_from was (bytes ++ more) ≡ rest_from next more

-- a head block that was judged completes the items, and what is left over waits for the bytes after it
-- for private clauses
pub record CompletesItems (verdict : Verdict) (found : List Item) (next : FramingState) : Type 0 where
  pub items : (more : List ℕ) → frame_after verdict more ≡ found ++ frame_from next more
  pub left : (more : List ℕ) → rest_after verdict more ≡ rest_from next more

-- the bytes begin with some that do so, and more follow; for private clauses
pub record Takes (was : FramingState) (bytes : List ℕ) (found : List Item) (next : FramingState) (more : List ℕ) : Type 0 where
  pub items : frame_from was bytes ≡ found ++ frame_from next more
  pub left : rest_from was bytes ≡ rest_from next more
  pub shorter : length more < length bytes

-- after nothing more, nothing more is complete; for private clauses
pub record IsSettled (left : FramingState) : Type 0 where
  pub none : frame_from left [] ≡ []
  pub same : rest_from left [] ≡ left
