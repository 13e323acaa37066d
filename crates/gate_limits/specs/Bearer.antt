-- Which control requests bring the token that is wanted, and what the others are answered.
use Rattle.std.specs.Prelude.{ℕ, Bool, true, ◌&&◌, List, [], ◌++◌, length, take, drop, bytes_eq, if◌then◌else◌, codes, Option, Some, None}
use Rattle.std.specs.List.{list_any}
use Rattle.octets.specs.Case.{eq_ignore_case}
use Rattle.http_edge.specs.declared.field.Field.{Field}
use Rattle.http_edge.specs.Reply.{crlf, field_line, length_line, close_line}
use Rattle.gate_limits.specs.Foreign.{is_named}

-- the value of an Authorization field brings a token: the scheme's name in any case (RFC 9110, section 11.1), a space, and
-- the token, whole and nothing behind it (RFC 6750, section 2.1)
abbrev pub brings : List ℕ → List ℕ → Bool
brings token value = eq_ignore_case (take 7 value) (codes "bearer ") && bytes_eq (drop 7 value) token

abbrev pub is_bearer : List ℕ → Field → Bool
is_bearer token field = is_named (codes "authorization") field && brings token field.value

-- a request with these fields brings the token that is wanted, or none is
abbrev pub is_authorized : Option (List ℕ) → List Field → Bool
is_authorized None fields = true
is_authorized (Some token) fields = list_any (is_bearer token) fields

-- what the others are told (RFC 9110, section 15.5.2; RFC 6750, section 3)
abbrev pub challenge_text : List ℕ
challenge_text = codes "refused: Authorization: Bearer TOKEN is to be sent\n"

abbrev pub challenge_head : List ℕ
challenge_head =
    codes "HTTP/1.1 401 Unauthorized" ++ crlf
    ++ field_line (record { name = codes "Content-Type"; value = codes "text/plain; charset=utf-8" })
    ++ length_line (length challenge_text)
    ++ field_line (record { name = codes "WWW-Authenticate"; value = codes "Bearer" })
    ++ close_line true ++ crlf

-- a reply to HEAD has no body (RFC 9110, section 9.3.2)
abbrev pub challenge : Bool → List ℕ
challenge head_only = challenge_head ++ (if head_only then [] else challenge_text)
