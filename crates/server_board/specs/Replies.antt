-- What each control request is answered (RFC 9110, sections 8.3, 10.2.1 and 15).
use Rattle.std.specs.Prelude.{◌≡◌, ℕ, List, [], ◌∷◌, codes}
use Rattle.http_edge.specs.declared.field.Field.{Field}
use Rattle.http_edge.specs.declared.reply.Reply.{Reply}
use Rattle.http_edge.specs.declared.reply.Status.{Status}
use Rattle.http_edge.specs.declared.reply.Status.TheVariants as statuses
use Rattle.server_board.specs.declared.board.Asked.{Asked}
use Rattle.server_board.specs.declared.board.Asked.TheVariants as asked
use Rattle.server_board.specs.declared.board.Method.{Method}
use Rattle.server_board.specs.declared.board.Method.TheVariants.{Get, Post}

-- the field that says what a body is
abbrev pub type_field : List ℕ → Field
type_field kind = record { name = codes "Content-Type"; value = kind }

-- the field of a line of text
abbrev pub line_field : Field
line_field = type_field (codes "text/plain; charset=utf-8")

-- the field that says which method a target has
abbrev pub allow_field : Method → Field
allow_field Get = record { name = codes "Allow"; value = codes "GET" }
allow_field Post = record { name = codes "Allow"; value = codes "POST" }

-- a reply has this status and these fields
pub record IsHeaded (wanted : Status) (fields : List Field) (reply : Reply) : Type 0 where
  pub status : reply.status ≡ wanted
  pub lines : reply.fields ≡ fields

-- a reply is this line of text besides
pub record IsLineReply (wanted : Status) (fields : List Field) (line : List ℕ) (reply : Reply) : Type 0 where
  pub head : IsHeaded wanted fields reply
  pub text : reply.body ≡ line

-- figures have the type of their text; of the others each byte is said
abbrev pub IsBoardAnswer : Asked → Reply → Type 0
IsBoardAnswer asked.Status reply = IsHeaded statuses.Ok (type_field (codes "application/json") ∷ []) reply
IsBoardAnswer asked.Metrics reply = IsHeaded statuses.Ok (type_field (codes "text/plain; version=0.0.4; charset=utf-8") ∷ []) reply
IsBoardAnswer asked.Stop reply = IsLineReply statuses.Ok (line_field ∷ []) (codes "stopping\n") reply
IsBoardAnswer (asked.NotWith method) reply = IsLineReply statuses.MethodNotAllowed (line_field ∷ allow_field method ∷ []) (codes "method not allowed\n") reply
IsBoardAnswer asked.Nothing reply = IsLineReply statuses.NotFound (line_field ∷ []) (codes "not found\n") reply
