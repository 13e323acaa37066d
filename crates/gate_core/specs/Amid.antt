-- What an item is answered over stores that others change, each read for itself.
use Rattle.std.specs.Prelude.{◌≡◌, ◌⊎◌, ⊤, ℕ, List, Option, Some, None, Ok, Err}
use Rattle.http_edge.specs.declared.item.Item.{Item}
use Rattle.http_edge.specs.declared.item.Item.TheVariants.{Request as RequestItem, Continue, Fault}
use Rattle.http_edge.specs.Judge.{is_head_request}
use Rattle.http_edge.specs.Reply.{rendered}
use Rattle.grid.specs.GridState.{GridState}
use Rattle.caps.specs.Fields.{ReadValue}
use Rattle.caps.specs.StorageIndex.{index_of}
use Rattle.file_shares.specs.Bound.{Bound}
use Rattle.file_shares.specs.Fit.{fit}
use Rattle.chk_file.specs.Amid.{SeesReached}
use Rattle.web_replies.specs.declared.reply.Reply.{Reply as WebReply}
use Rattle.web_ops.specs.Amid.{IsReplyBy}
use Rattle.gate_core.specs.Settings.{GatewaySettings, encoding_in}
use Rattle.gate_base.specs.Requests.{Interpreted, asked_of}
use Rattle.gate_base.specs.Browsers.{sent_reply}

-- these are bytes that are bound to the fields
abbrev pub IsBound : ReadValue → Option (List ℕ) → Type 0
IsBound f None = ⊥
IsBound f (Some bytes) = Bound f bytes

-- What a read for an item gives: bytes that are bound to its fields, as those are that the gateway kept of an earlier
-- read, or what verification finds, be it bytes or none, in a row that was reached of what was seen for the item.
abbrev pub IsGivenFor : GridState → GridState → ReadValue → Option (List ℕ) → Type 0
IsGivenFor old new f found = IsBound f found ⊎ SeesReached old new (index_of f.key) (λ row. fit row f ≡ found)

-- the reply to a request follows from what such reads gave, and a check's from what was seen
abbrev pub IsAskedReplyAmid : GatewaySettings → Interpreted → WebReply → GridState → GridState → Type 0
IsAskedReplyAmid settings (Ok request) reply old new = IsReplyBy (encoding_in settings) (IsGivenFor old new) old new request reply
IsAskedReplyAmid settings (Err fault) reply old new = ⊤

-- the answer to a request is such a reply, as it is sent; for no other item a store is asked
abbrev pub IsAnswerAmid : GatewaySettings → Item → List ℕ → GridState → GridState → Type 0
IsAnswerAmid settings (RequestItem head body close) text old new =
    (given : WebReply) × (IsAskedReplyAmid settings (asked_of head body) given old new × (text ≡ rendered (sent_reply settings.for_browsers head given) (is_head_request head) close))
IsAnswerAmid settings Continue text old new = ⊤
IsAnswerAmid settings (Fault fault head_only) text old new = ⊤
