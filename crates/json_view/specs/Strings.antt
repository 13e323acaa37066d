-- Texts in JSON (RFC 8259), as `serde_json` writes them.
use Rattle.std.specs.Prelude.{ℕ, Bool, not, ◌&&◌, ◌==◌, nat_le, List}
use Rattle.serde_json.specs.Data.{string}
use Rattle.serde_json.specs.Written.{compact_text}

-- a text between quotes, with the escapes that it needs
unfoldable pub quoted : List ℕ → List ℕ
quoted text = compact_text (string text)

-- a byte that needs none: no control character, no quote and no backslash
abbrev pub needs_no_escape : ℕ → Bool
needs_no_escape byte = nat_le 32 byte && not (byte == 34) && not (byte == 92)
