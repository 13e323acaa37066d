-- What a client asks of a gateway, and the head that asks for it (RFC 9112, sections 2 to 5).
use Rattle.std.specs.Prelude.{◌≤◌, ℕ, Bool, true, false, List, [], ◌∷◌, ◌++◌, length, codes, decimal, None}
use Rattle.httparse.specs.Ascii.{space}
use Rattle.httparse.specs.Grammar.{Field, crlf, RequestHead, print_request, AllPass, is_value_byte}
use Rattle.http_edge.specs.Judge.{most_body_bytes}
use Rattle.http_edge.specs.Frame.{most_head_bytes}
use Rattle.caps.specs.CapTexts.{IsCap, cap_text}
use Rattle.caps.specs.Weakening.{cap_of}
use Rattle.caps.specs.declared.cap.Cap.TheVariants.{Chk}
use Rattle.web_request.specs.declared.request.Request.{Request}
use Rattle.web_request.specs.declared.request.Request.TheVariants as request
use Rattle.client_core.specs.declared.ask.Ask.{Ask}
use Rattle.client_core.specs.declared.ask.Ask.TheVariants.{Put, Mkdir, Read, Check}

abbrev pub method_of : Ask → List ℕ
method_of Put = codes "PUT"
method_of Mkdir = codes "POST"
method_of (Read fields) = codes "GET"
method_of (Check cap verify) = codes "POST"

abbrev pub query_of_check : Bool → List ℕ
query_of_check true = codes "?t=check&output=JSON&verify=true"
query_of_check false = codes "?t=check&output=JSON"

abbrev pub target_of : Ask → List ℕ
target_of Put = codes "/uri"
target_of Mkdir = codes "/uri?t=mkdir-immutable"
target_of (Read fields) = codes "/uri/" ++ (cap_text (Chk fields) ++ [])
target_of (Check cap verify) = codes "/uri/" ++ (cap_text (cap_of cap) ++ query_of_check verify)

-- name ": " value CRLF
abbrev pub asked_field : List ℕ → List ℕ → Field
asked_field name value = record { name = name; raw = space ∷ value; end = crlf }

-- the head, for a body of n bytes
unfoldable pub asked_head : List ℕ → Ask → ℕ → RequestHead
asked_head host ask n = record {
  blank = [];
  method = method_of ask;
  target = target_of ask;
  minor = 1;
  line_end = crlf;
  fields = asked_field (codes "Host") host ∷ (asked_field (codes "Content-Length") (decimal n) ∷ []);
  last = crlf;
}

-- what is meant, with the body that goes with it
abbrev pub meant : Ask → List ℕ → Request
meant Put body = request.Put body
meant Mkdir body = request.Mkdir body
meant (Read fields) body = request.Get (Chk fields) [] false false None
meant (Check cap verify) body = request.Check (cap_of cap) [] verify

-- what can be asked for
abbrev pub IsAsk : Ask → Type 0
IsAsk Put = Unit {0}
IsAsk Mkdir = Unit {0}
IsAsk (Read fields) = IsCap (Chk fields)
IsAsk (Check cap verify) = IsCap (cap_of cap)

-- a host, an ask and a body that make a request that a gateway takes
pub record IsAsked (host : List ℕ) (ask : Ask) (body : List ℕ) : Type 0 where
  pub host_is : AllPass is_value_byte host
  pub ask_is : IsAsk ask
  pub fits : length body ≤ most_body_bytes
  pub short : length (print_request (asked_head host ask (length body))) ≤ most_head_bytes
