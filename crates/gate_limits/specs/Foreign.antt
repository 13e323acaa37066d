-- Which control requests come from elsewhere, and what they are answered. A page in the browser of somebody who reaches the
-- control address can send requests there: these have an Origin field (Fetch standard, section 3.2), or, once the page's own
-- name leads to that address, a Host field of that name (RFC 9110, section 7.2).
use Rattle.std.specs.Prelude.{ℕ, Bool, true, ◌||◌, ◌&&◌, not, List, [], ◌++◌, length, if◌then◌else◌, codes, decimal, Option, Some, None}
use Rattle.std.specs.List.{list_any}
use Rattle.std.specs.Net.Addr.{ipv4_octets, ipv6_segments}
use Rattle.std.specs.Net.Text.{ipv4_text, ipv6_text}
use Rattle.std.specs.declared.net.ip_addr.IpAddr.{IpAddr}
use Rattle.std.specs.declared.net.ip_addr.IpAddr.TheVariants.{V4, V6}
use Rattle.octets.specs.Case.{eq_ignore_case}
use Rattle.http_edge.specs.declared.field.Field.{Field}
use Rattle.http_edge.specs.Reply.{crlf, field_line, length_line, close_line}
use Rattle.gate_limits.specs.declared.foreign.Foreign.{Foreign}
use Rattle.gate_limits.specs.declared.foreign.Foreign.TheVariants.{Page, Host}

-- the field has the name, in any case
abbrev pub is_named : List ℕ → Field → Bool
is_named name field = eq_ignore_case field.name name

-- what a Host field says of an address and its port, and of `localhost` (RFC 9110, section 7.2; RFC 3986, section 3.2.2)
abbrev pub host_text : IpAddr → ℕ → List ℕ
host_text (V4 ip) port = ipv4_text (ipv4_octets ip) ++ (codes ":" ++ decimal port)
host_text (V6 ip) port = codes "[" ++ (ipv6_text (ipv6_segments ip) ++ (codes "]:" ++ decimal port))

abbrev pub localhost_text : ℕ → List ℕ
localhost_text port = codes "localhost:" ++ decimal port

-- a Host field that has neither of these two texts, in any case
abbrev pub is_foreign_host : List ℕ → List ℕ → Field → Bool
is_foreign_host address localhost field = is_named (codes "host") field && not (eq_ignore_case field.value address || eq_ignore_case field.value localhost)

-- why a request with these fields is refused, which came to an address: it has an Origin field, or a Host field that names
-- something else
abbrev pub foreign_in : List ℕ → List ℕ → List Field → Option Foreign
foreign_in address localhost fields =
    if list_any (is_named (codes "origin")) fields then Some Page
    else (if list_any (is_foreign_host address localhost) fields then Some Host else None)

-- what it is told
abbrev pub refusal_text : Foreign → List ℕ
refusal_text Page = codes "refused: an Origin field says that a web page asks\n"
refusal_text Host = codes "refused: the Host field names neither this address nor localhost, with its port\n"

abbrev pub refusal_head : Foreign → List ℕ
refusal_head why =
    codes "HTTP/1.1 403 Forbidden" ++ crlf
    ++ field_line (record { name = codes "Content-Type"; value = codes "text/plain; charset=utf-8" })
    ++ length_line (length (refusal_text why)) ++ close_line true ++ crlf

-- a reply to HEAD has no body (RFC 9110, section 9.3.2)
abbrev pub refusal : Foreign → Bool → List ℕ
refusal why head_only = refusal_head why ++ (if head_only then [] else refusal_text why)
