-- Which fields a reply may be given (RFC 9110, sections 5.5, 7.6.1 and 8.6).
use Rattle.std.specs.Prelude.{ℕ, Bool, ◌&&◌, not, ◌==◌, codes, IsTrue}
use Rattle.std.specs.List.{list_all}
use Rattle.httparse.specs.Ascii.{line_feed, carriage_return}
use Rattle.octets.specs.Case.{eq_ignore_case}
use Rattle.http_edge.specs.declared.field.Field.{Field}

-- neither CR nor LF
abbrev pub is_line_byte : ℕ → Bool
is_line_byte b = not (b == carriage_return) && not (b == line_feed)

-- no field that says how long the body is or whether the connection stays, and no CR or LF in it
abbrev pub is_reply_field : Field → Bool
is_reply_field f =
    not (eq_ignore_case f.name (codes "content-length"))
    && (not (eq_ignore_case f.name (codes "connection"))
    && (list_all is_line_byte f.name && list_all is_line_byte f.value))

abbrev pub IsPlain : Field → Type 0
IsPlain f = IsTrue (is_reply_field f)
