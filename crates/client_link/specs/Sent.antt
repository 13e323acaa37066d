-- The bytes of a request.
use Rattle.std.specs.Prelude.{ℕ, List, ◌++◌, length}
use Rattle.httparse.specs.Grammar.{print_request}
use Rattle.client_core.specs.Asks.{asked_head}
use Rattle.client_core.specs.declared.ask.Ask.{Ask}

-- its head, and the body behind it
abbrev pub request_bytes : List ℕ → Ask → List ℕ → List ℕ
request_bytes host ask body = print_request (asked_head host ask (length body)) ++ body
