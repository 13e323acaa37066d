-- Which requests of a control connection may be answered.
use Rattle.std.specs.Prelude.{ℕ, Bool, false, ◌&&◌, List, Option, is_none}
use Rattle.http_edge.specs.declared.field.Field.{Field}
use Rattle.http_edge.specs.declared.item.Item.{Item}
use Rattle.http_edge.specs.declared.item.Item.TheVariants.{Request, Continue, Fault}
use Rattle.gate_limits.specs.Foreign.{foreign_in}
use Rattle.gate_limits.specs.Bearer.{is_authorized}

-- a request with these fields that came to an address may be answered: it doesn't come from elsewhere, and brings the token
abbrev pub is_admitted : List ℕ → List ℕ → Option (List ℕ) → List Field → Bool
is_admitted address localhost token fields = is_none (foreign_in address localhost fields) && is_authorized token fields

-- an item of a connection is such a request
abbrev pub is_admitted_item : List ℕ → List ℕ → Option (List ℕ) → Item → Bool
is_admitted_item address localhost token (Request head body close) = is_admitted address localhost token head.fields
is_admitted_item address localhost token Continue = false
is_admitted_item address localhost token (Fault fault head_only) = false
