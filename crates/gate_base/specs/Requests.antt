-- What the request of a head and a body asks for, or why it asks for nothing that there is.
use Rattle.std.specs.Prelude.{ℕ, List, map, Result}
use Rattle.http_edge.specs.declared.item.Head.{Head}
use Rattle.http_edge.specs.declared.field.Field.{Field}
use Rattle.web_request.specs.declared.head.Head.{Head as WebHead}
use Rattle.web_request.specs.declared.head.Field.{Field as WebField}
use Rattle.web_request.specs.declared.request.Request.{Request}
use Rattle.web_request.specs.declared.fault.WebFault.{WebFault}
use Rattle.web_request.specs.Requests.{interpreted}

-- the same parts of a head
abbrev pub web_field : Field → WebField
web_field field = record { name = field.name; value = field.value }

abbrev pub web_head : Head → WebHead
web_head head = record { method = head.method; target = head.target; fields = map web_field head.fields }

-- what is asked for
abbrev pub Interpreted : Type 0
Interpreted = Result Request WebFault

unfoldable pub asked_of : Head → List ℕ → Interpreted
asked_of head body = interpreted (web_head head) body
