-- Metadata of a directory's entries: JSON objects (RFC 8259, as `serde_json` reads it).
use Rattle.std.specs.Prelude.{ℕ, ◌&&◌, not, nat_le, Bool, List, Option, Some, None, option_map, option_and_then, is_some, if◌then◌else◌}
use Rattle.std.specs.Str.{is_utf8}
use Rattle.serde_json.specs.Data.{Data, depth}
use Rattle.serde_json.specs.Read.{read}
use Rattle.serde_json.specs.Find.{as_object}
use Rattle.serde_json.specs.Written.{has_float, compact_text}

-- the JSON that bytes are
unfoldable pub json_of : List ℕ → Option Data
json_of bytes = if is_utf8 bytes then read bytes else None

-- each number is a whole one of 64 bits, and arrays and objects nest at most so many levels
abbrev pub is_whole : Data → ℕ → Bool
is_whole d levels = not (has_float d) && nat_le (depth d) levels

-- an object within these limits; `{}` is one level
abbrev pub is_metadata : Data → Bool
is_metadata d = is_some (as_object d) && is_whole d 100

abbrev pub if_metadata : Data → Option Data
if_metadata d = if is_metadata d then Some d else None

-- the metadata that bytes are
unfoldable pub metadata_of : List ℕ → Option Data
metadata_of bytes = option_and_then if_metadata (json_of bytes)

-- the one spelling of that metadata: `serde_json`'s compact text
unfoldable pub spelling_of : List ℕ → Option (List ℕ)
spelling_of bytes = option_map compact_text (metadata_of bytes)
